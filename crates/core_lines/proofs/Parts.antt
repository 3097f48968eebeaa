-- The parts of lines.
use Rattle.std.proofs.Common.{◌≡◌, ℕ, ◌+◌, ◌<◌, ◌≤◌, List, [], ◌∷◌, ◌++◌, length, take, get_or, codes, refl, sym, ap, ◌∙◌, append_assoc, add-one}
use Rattle.std.specs.List.{flat_map}
use Rattle.std.proofs.Math.Seq.{take-suc}
use Rattle.std.proofs.lemmas.List.{take_all, append-nil}
use Rattle.std.proofs.lemmas.List.Concat.{flat_map-append}
use Rattle.pmsi_model.specs.declared.Mode.{Mode}
use Rattle.pmsi_model.specs.Lines.{held_text, held_line, reg_texts}
use Rattle.core_lines.specs.Regs.{reg_text}
use Rattle.text_out.proofs.Exports.{grown, IsByPlaces, further}

-- ---- registers

by_numbers : IsByPlaces reg_texts reg_text
by_numbers = record { none = λ r. refl; more = λ r value values. refl }

-- the texts of the registers below k, and then that of register k
pub regs_further : (start before after regs : List ℕ) (k : ℕ) → k < length regs → before ≡ start ++ reg_texts 0 (take k regs) → after ≡ before ++ reg_text k (get_or regs k 0) →
    after ≡ start ++ reg_texts 0 (take (k + 1) regs)
regs_further = further reg_texts reg_text by_numbers

-- ---- held lines

-- the held lines before place k, and then the one there
pub held_further : (start before after : List ℕ) (held : List (ℕ × Mode)) (k : ℕ) (d : ℕ × Mode) → k < length held
    → before ≡ start ++ flat_map held_text (take k held) → after ≡ before ++ held_text (get_or held k d) → after ≡ start ++ flat_map held_text (take (k + 1) held)
held_further start before after held k d less so more =
    let h : ℕ × Mode = get_or held k d in
    let next : take (k + 1) held ≡ take k held ++ h ∷ [] = rw add-one (take-suc held k d less) in
    let one : flat_map held_text (h ∷ []) ≡ held_text h = append-nil (held_text h) in
    let texts : flat_map held_text (take (k + 1) held) ≡ flat_map held_text (take k held) ++ held_text h =
    ap (λ (hs : List (ℕ × Mode)). flat_map held_text hs) next ∙ flat_map-append held_text (take k held) (h ∷ []) ∙ ap (λ (text : List ℕ). flat_map held_text (take k held) ++ text) one in
    more ∙ ap (λ (text : List ℕ). text ++ held_text h) so ∙ append_assoc start (flat_map held_text (take k held)) (held_text h) ∙ ap (λ (text : List ℕ). start ++ text) (sym texts)

-- all of them
pub held_whole : (old start before : List ℕ) (held : List (ℕ × Mode)) (k : ℕ) → length held ≤ k → start ≡ old ++ codes "held" → before ≡ start ++ flat_map held_text (take k held) → before ++ codes "\n" ≡ old ++ held_line held
unfolding held_line
held_whole old start before held k all h g =
    let texts : List ℕ = flat_map held_text held in
    let whole : before ≡ start ++ texts = g ∙ ap (λ (hs : List (ℕ × Mode)). start ++ flat_map held_text hs) (take_all k held all) in
    grown old (codes "held" ++ texts) before (before ++ codes "\n") (codes "\n") (grown old (codes "held") start before texts h whole) refl
