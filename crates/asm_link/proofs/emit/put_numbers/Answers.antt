use Rattle.std.proofs.Common.{◌≡◌, ◌+◌, ◌<◌, ◌≤◌, ◌++◌, length, take, get_or, ap, sym, subst, ◌∙◌, ℕ, List, arith, length-append}
use Rattle.std.specs.List.{flat_map}
use Rattle.std.proofs.lemmas.List.{take_all}
use Rattle.std.proofs.lemmas.List.Folds.{length-flat_map-take}
use Rattle.pmsi_model.specs.Words.{bytes_of}
use Rattle.asm_parse.specs.Items.{bytes_in}
use Rattle.asm_link.specs.Bytes.{Overwrites}
use Rattle.asm_link.specs.Values.{held}
use Rattle.asm_link.specs.Placed.{number_bytes, number_word}
use Rattle.asm_link.proofs.Overwriting.{overwrites_more, still_named, lowest_bytes, flat_more, bytes_long}
use Rattle.asm_link.proofs.emit.put_numbers.Goals as goal

pub put_bytes-requires : goal.put_bytes-requires
put_bytes-requires c k lt =
    let f = number_bytes (held c.args.names.now) c.args.width in
    let xs = c.args.numbers.now in
    let i = c.loop-number.number-index in
    let x = c.number-item.result in
    let done = length (flat_map f (take i xs)) in
    let same : take c.bytes.result c.to_le_bytes-bytes.result ≡ f x =
    ap (λ (n : ℕ). take n c.to_le_bytes-bytes.result) c.bytes.ensures ∙ lowest_bytes c.args.width c.word_of_number.result c.to_le_bytes-bytes.result c.to_le_bytes-bytes.ensures
    ∙ ap (bytes_of (bytes_in c.args.width)) c.word_of_number.ensures in
    let short : k < length (f x) = rw same at lt in
    let within : done + length (f (get_or xs i x)) ≤ length (flat_map f xs) = length-flat_map-take f xs i x c.loop-number-test.true in
    let inside : done + length (f x) ≤ length (flat_map f xs) = rw (sym c.number-item.is) at within in
    let here : c.loop-number.at + k ≡ c.args.address + (done + k) = omega (arith, c.loop-number.invariant.1) in
    rw here (still_named c.args.memory.now c.loop-number.memory c.args.address (flat_map f (take i xs)) (c.args.address + (done + k)) c.loop-number.invariant.0
    (c.requires.named (done + k) (omega (arith, short, inside))))

pub overflow_add-at : goal.overflow_add-at
overflow_add-at c =
    let f = number_bytes (held c.args.names.now) c.args.width in
    let xs = c.args.numbers.now in
    let i = c.loop-number.number-index in
    let x = c.number-item.result in
    let within : length (flat_map f (take i xs)) + length (f (get_or xs i x)) ≤ length (flat_map f xs) = length-flat_map-take f xs i x c.loop-number-test.true in
    let long : length (f (get_or xs i x)) ≡ bytes_in c.args.width = bytes_long (bytes_in c.args.width) (number_word (held c.args.names.now) (get_or xs i x)) in
    omega (arith, within, long, c.requires.within, c.loop-number.invariant.1, c.bytes-at.ensures)

pub loop-number-preserved : goal.loop-number-preserved
loop-number-preserved c =
    let f = number_bytes (held c.args.names.now) c.args.width in
    let xs = c.args.numbers.now in
    let i = c.loop-number.number-index in
    let x = c.number-item.result in
    let more : flat_map f (take (i + 1) xs) ≡ flat_map f (take i xs) ++ f x = flat_more f xs i x c.loop-number-test.true ∙ ap (λ (k : _). flat_map f (take i xs) ++ f k) (sym c.number-item.is) in
    let same : take c.bytes.result c.to_le_bytes-bytes.result ≡ f x =
    ap (λ (n : ℕ). take n c.to_le_bytes-bytes.result) c.bytes.ensures ∙ lowest_bytes c.args.width c.word_of_number.result c.to_le_bytes-bytes.result c.to_le_bytes-bytes.ensures
    ∙ ap (bytes_of (bytes_in c.args.width)) c.word_of_number.ensures in
    let put : Overwrites c.loop-number.memory c.put_bytes.new.self c.loop-number.at (f x) = rw same at c.put_bytes.ensures in
    let long : length (f x) ≡ bytes_in c.args.width = bytes_long (bytes_in c.args.width) (number_word (held c.args.names.now) x) in
    let all : length (flat_map f (take (i + 1) xs)) ≡ length (flat_map f (take i xs)) + length (f x) = ap length more ∙ length-append (flat_map f (take i xs)) (f x) in (
      rw more (overwrites_more c.args.memory.now c.loop-number.memory c.put_bytes.new.self c.args.address c.loop-number.at (flat_map f (take i xs)) (f x) c.loop-number.invariant.1 c.loop-number.invariant.0 put),
      omega (arith, all, long, c.loop-number.invariant.1, c.bytes-at.ensures),
    )

pub returns : goal.returns
returns c =
    let f = number_bytes (held c.args.names.now) c.args.width in
    let end : take c.loop-number.number-index c.args.numbers.now ≡ c.args.numbers.now = take_all c.loop-number.number-index c.args.numbers.now c.loop-number-test.false in
    subst (λ (k : List _). Overwrites c.args.memory.now c.loop-number.memory c.args.address (flat_map f k)) end c.loop-number.invariant.0
