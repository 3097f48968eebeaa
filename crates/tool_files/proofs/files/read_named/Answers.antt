use Rattle.std.proofs.Common.{rules, inl, inr, refl, ◌<◌, length}
use Rattle.pmsi_model.specs.declared.limits.TheConstants.{MAX_FILE_BYTES}
use Rattle.pmsi_outside.specs.Files.{Tells}
use Rattle.tool_files.proofs.FileReads.{large_held}
use Rattle.tool_files.proofs.files.read_named.Goals as goal

pub returns-in-Err-Large-clause-stop : goal.returns-in-Err-Large-clause-stop
returns-in-Err-Large-clause-stop g c =
    let large : Tells (g.F.Files.contents c.args.files.now) c.args.name.now (λ held. MAX_FILE_BYTES < length held) = search rules in
    let held = large_held MAX_FILE_BYTES (g.F.Files.contents c.args.files.now) c.args.name.now large in inr (held.0, held.1, inl (held.2, refl))
