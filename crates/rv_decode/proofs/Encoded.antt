-- A word that is put together from the fields of an instruction that has a row is the one word that encodes it.
use Rattle.std.proofs.Common.{◌≡◌, ℕ, Some, sym, ◌∙◌, subst, refl}
use Rattle.pmsi_model.specs.declared.instr.Instr.{Instr}
use Rattle.pmsi_model.specs.Instruction.{HasRow, IsEncodingOf, instr_of}
use Rattle.pmsi_model.proofs.Encodings.{reads_one_way}
use Rattle.rv_decode.specs.Ranges.{IsInRange, RangesAreRows}
use Rattle.rv_decode.specs.Formats.{word_for}
use Rattle.rv_decode.proofs.Rows.{encoding_back, put_together}

pub has_row : (instr : Instr) → IsInRange instr → HasRow instr
has_row instr range = (word_for instr, put_together (word_for instr) instr range refl)

pub has_ranges : (instr : Instr) → HasRow instr → IsInRange instr
has_ranges instr has = (encoding_back has.0 instr has.1).in_range

pub ranges_are_rows : RangesAreRows
ranges_are_rows instr = (has_row instr, has_ranges instr)

encodes : (w : ℕ) (instr : Instr) → HasRow instr → w ≡ word_for instr → IsEncodingOf w instr
encodes w instr has is = put_together w instr (has_ranges instr has) is

-- the clauses of `encode`
pub encoded : (w : ℕ) (instr i : Instr) → HasRow instr → instr ≡ i → w ≡ word_for i →
    record { row : IsEncodingOf w instr; read : instr_of w ≡ Some instr; only : (word : ℕ) → IsEncodingOf word instr → word ≡ w }
encoded w instr i has same is =
    let row : IsEncodingOf w instr = encodes w instr has (subst (λ (j : Instr). w ≡ word_for j) (sym same) is) in
    record {
      row = row;
      read = (reads_one_way w instr row.0).0 row;
      only = λ word other. sym (encoding_back word instr other).is ∙ (encoding_back w instr row).is;
    }
