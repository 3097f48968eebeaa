-- What is printed of one core in a slot.
use Rattle.std.specs.Prelude.{ℕ, List, take}
use Rattle.std.specs.List.{flat_map}
use Rattle.pmsi_model.specs.Lines.{row_line, touch_line}
use Rattle.listing.specs.declared.rests.Piece.{Piece}
use Rattle.listing.specs.declared.rests.Piece.TheVariants.{Row as RowPiece, Phase, Fill}
use Rattle.listing.specs.Rests.{RestValue, fills, phase_count, without_rows, without_touches}

abbrev pub piece_text : Piece → ℕ → RestValue → List ℕ
piece_text RowPiece slot rest = flat_map row_line (take (fills slot rest) rest.rows)
piece_text Phase slot rest = flat_map touch_line (take (phase_count slot rest) rest.touches)
piece_text Fill slot rest = flat_map touch_line (take (fills slot rest) rest.touches)

-- and what is left
abbrev pub past_piece : Piece → ℕ → RestValue → RestValue
past_piece RowPiece slot rest = without_rows (fills slot rest) rest
past_piece Phase slot rest = without_touches (phase_count slot rest) rest
past_piece Fill slot rest = without_touches (fills slot rest) (without_rows (fills slot rest) rest)
