-- The parts of lines.
use Rattle.std.proofs.Common.{◌≡◌, ℕ, ◌+◌, List, ◌++◌, codes, decimal, refl, ap, ◌∙◌, append_assoc, arith}
use Rattle.pmsi_model.specs.declared.Touch.{Touch}
use Rattle.pmsi_model.specs.Lines.{hex_word, hex_bytes, memory_line, kind_text, touch_line}
use Rattle.text_out.proofs.Exports.{grown}

-- the five parts of a line of memory
five : (old a b c d e one two three : List ℕ) → one ≡ old ++ a ++ b → two ≡ one ++ c → three ≡ two ++ d → three ++ e ≡ old ++ (a ++ b ++ c ++ d ++ e)
five old a b c d e one two three f g h = grind (arith, append_assoc)

pub memory_parts : (old : List ℕ) (address : ℕ) (bytes one two three : List ℕ) → one ≡ old ++ codes "mem " ++ hex_word address → two ≡ one ++ codes " " → three ≡ two ++ hex_bytes bytes →
    three ++ codes "\n" ≡ old ++ memory_line address bytes
unfolding memory_line
memory_parts old address bytes one two three f g h = five old (codes "mem ") (hex_word address) (codes " ") (hex_bytes bytes) (codes "\n") one two three f g h

-- ---- the line of an access

two_more : (old text before after a b : List ℕ) → before ≡ old ++ text → after ≡ before ++ a ++ b → after ≡ old ++ (text ++ a ++ b)
two_more old text before after a b h g = grown old (text ++ a) (before ++ a) after b (grown old text before (before ++ a) a h refl) g

-- one piece alone, and seven that follow in ones and twos
pieces : (old a1 a2 b1 b2 c d e1 e2 f1 f2 g1 g2 h1 h2 last o1 o2 o3 o4 o5 o6 o7 o8 : List ℕ) → o1 ≡ old ++ a1 ++ a2 → o2 ≡ o1 ++ b1 ++ b2 → o3 ≡ o2 ++ c → o4 ≡ o3 ++ d
    → o5 ≡ o4 ++ e1 ++ e2 → o6 ≡ o5 ++ f1 ++ f2 → o7 ≡ o6 ++ g1 ++ g2 → o8 ≡ o7 ++ h1 ++ h2
    → o8 ++ last ≡ old ++ (a1 ++ a2 ++ b1 ++ b2 ++ c ++ d ++ e1 ++ e2 ++ f1 ++ f2 ++ g1 ++ g2 ++ h1 ++ h2 ++ last)
pieces old a1 a2 b1 b2 c d e1 e2 f1 f2 g1 g2 h1 h2 last o1 o2 o3 o4 o5 o6 o7 o8 p1 p2 p3 p4 p5 p6 p7 p8 =
    let t1 : List ℕ = a1 ++ a2 in
    let t2 : List ℕ = t1 ++ b1 ++ b2 in
    let t4 : List ℕ = t2 ++ c ++ d in
    let t5 : List ℕ = t4 ++ e1 ++ e2 in
    let t6 : List ℕ = t5 ++ f1 ++ f2 in
    let t7 : List ℕ = t6 ++ g1 ++ g2 in
    let t8 : List ℕ = t7 ++ h1 ++ h2 in
    let s1 : o1 ≡ old ++ t1 = p1 ∙ append_assoc old a1 a2 in
    let s2 : o2 ≡ old ++ t2 = two_more old t1 o1 o2 b1 b2 s1 p2 in
    let s3 : o3 ≡ old ++ (t2 ++ c) = grown old t2 o2 o3 c s2 p3 in
    let s4 : o4 ≡ old ++ t4 = grown old (t2 ++ c) o3 o4 d s3 p4 in
    let s5 : o5 ≡ old ++ t5 = two_more old t4 o4 o5 e1 e2 s4 p5 in
    let s6 : o6 ≡ old ++ t6 = two_more old t5 o5 o6 f1 f2 s5 p6 in
    let s7 : o7 ≡ old ++ t7 = two_more old t6 o6 o7 g1 g2 s6 p7 in
    let s8 : o8 ≡ old ++ t8 = two_more old t7 o7 o8 h1 h2 s7 p8 in
    grown old t8 o8 (o8 ++ last) last s8 refl

pub touch_parts : (old : List ℕ) (touch : Touch) (slot core width : ℕ) (kind : List ℕ) (o1 o2 o3 o4 o5 o6 o7 o8 : List ℕ) → slot ≡ touch.slot → core ≡ touch.core → width ≡ touch.width → kind ≡ kind_text touch.kind
    → o1 ≡ old ++ codes "touch " ++ decimal slot → o2 ≡ o1 ++ codes " core " ++ decimal core → o3 ≡ o2 ++ codes " " → o4 ≡ o3 ++ kind
    → o5 ≡ o4 ++ codes " " ++ decimal width → o6 ≡ o5 ++ codes " " ++ hex_word touch.address → o7 ≡ o6 ++ codes " " ++ hex_word touch.old
    → o8 ≡ o7 ++ codes " " ++ hex_word touch.new → o8 ++ codes "\n" ≡ old ++ touch_line touch
unfolding touch_line
touch_parts old touch slot core width kind o1 o2 o3 o4 o5 o6 o7 o8 e1 e2 e3 e4 p1 p2 p3 p4 p5 =
    pieces old (codes "touch ") (decimal touch.slot) (codes " core ") (decimal touch.core) (codes " ") (kind_text touch.kind) (codes " ") (decimal touch.width)
    (codes " ") (hex_word touch.address) (codes " ") (hex_word touch.old) (codes " ") (hex_word touch.new) (codes "\n") o1 o2 o3 o4 o5 o6 o7 o8
    (p1 ∙ ap (λ (n : ℕ). old ++ codes "touch " ++ decimal n) e1) (p2 ∙ ap (λ (n : ℕ). o1 ++ codes " core " ++ decimal n) e2) p3 (p4 ∙ ap (λ (x : List ℕ). o3 ++ x) e4)
    (p5 ∙ ap (λ (n : ℕ). o4 ++ codes " " ++ decimal n) e3)
