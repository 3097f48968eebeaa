use Rattle.std.proofs.Common.{◌≡◌, ◌++◌, take}
use Rattle.std.specs.List.{flat_map}
use Rattle.pmsi_model.specs.Lines.{touch_line}
use Rattle.listing.proofs.touches.push_touch_lines.Given as goal

abbrev pub invariant-loop-touch : goal.invariant-loop-touch
invariant-loop-touch l = l.out.items ≡ l.fn.out.items ++ flat_map touch_line (take l.touch-index l.touches)
