use Rattle.std.proofs.Common.{◌≡◌, ℕ, ◌-◌, ◌*◌, length, take, drop, map, ap, ◌∙◌, arith}
use Rattle.std.specs.List.{range_with_len}
use Rattle.std.proofs.lemmas.List.{take_at}
use Rattle.byteorder.specs.Endian.{little_number}
use Rattle.image_file.specs.Checks.{word_count}
use Rattle.image_file.specs.Reading.{words_in, word_at}
use Rattle.image_file.proofs.Numbers.{words_of_part}
use Rattle.image_file.proofs.reading.words_of.Goals as goal

pub returns : goal.returns
unfolding words_in
returns c =
    let words = c.read_u32_into.new.dst in
    let bytes = c.args.bytes.now in
    let same : length words ≡ length c.deref_mut.result.now = c.read_u32_into.auto.dst in
    let made = c.in_ok-words.ensures.len in
    let len : length words ≡ c.in_ok-words.words.len = same ∙ c.deref_mut.ensures.len in
    let count : length words ≡ word_count bytes = len ∙ made ∙ c.requires.words in
    let part : c.args.header.text_end - 16 ≡ 4 * length words = omega (arith, c.requires.end) in
    let read : words ≡ map (word_at bytes) (range_with_len 0 (length words)) =
    words_of_part bytes words 16 (λ k lt. c.read_u32_into.ensures k lt ∙ ap (λ (n : ℕ). little_number 4 (drop (4 * k) (take n (drop 16 bytes)))) part) in
    take_at words (drop (length words) c.in_ok-words.words.items) c.in_ok-words.words.len len ∙ read ∙ ap (λ (n : ℕ). map (word_at bytes) (range_with_len 0 n)) count
