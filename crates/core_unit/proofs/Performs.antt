-- An access on the word of a cached line, as the code does it.
use Rattle.std.proofs.Common.{◌≡◌, ℕ, ◌+◌, ◌-◌, ◌*◌, ◌%◌, ◌^◌, ◌<◌, List, get_or, sym, ap, ◌∙◌}
use Rattle.std.specs.Option.{option_map}
use Rattle.pmsi_model.specs.declared.Access.{Access}
use Rattle.pmsi_model.specs.declared.job.Geometry.{Geometry}
use Rattle.pmsi_model.specs.Words.{number_of, bytes_of}
use Rattle.pmsi_model.specs.Geometry.{IsGeometry, line_of, set_of}
use Rattle.pmsi_model.specs.Access.{kind_of}
use Rattle.pmsi_model.proofs.Bytes.{number_of-bytes_of}
use Rattle.cache_array.specs.declared.line.CachedLine.{CachedLine}
use Rattle.cache_array.specs.Cache.{CacheValue, place_of, way_of, words_of, word_place}
use Rattle.rv_exec.specs.Accesses.{bytes_after}
use Rattle.core_unit.specs.declared.state.State.{State}
use Rattle.core_unit.specs.State.{lines_after, lines_left, lines_with, met_in, performed, retired_on, with_lines}
use Rattle.core_unit.proofs.Copies.{aligned_line, aligned_word}
use Rattle.core_unit.proofs.Words.{some_words}

-- the word at the aligned address of an access is the one that it meets
met_at : (access : Access) (v : State) (word : ℕ) → IsGeometry v.cache.shape →
    word ≡ get_or (words_of (line_of v.cache.shape (access.address - access.address % 4)) v.cache.lines) (word_place v.cache.shape (access.address - access.address % 4)) 0 →
    word ≡ met_in access v.cache
met_at access v word shape read =
    let some = some_words v.cache.shape shape in let at : ℕ = access.address - access.address % 4 in
    read ∙ ap (λ (l : ℕ). get_or (words_of l v.cache.lines) (word_place v.cache.shape at) 0) (aligned_line v.cache.shape access.address some)
    ∙ ap (λ (p : ℕ). get_or (words_of (line_of v.cache.shape access.address) v.cache.lines) p 0) (aligned_word v.cache.shape access.address some)

-- the lines where a word was left at the aligned address of an access
pub left_at : (access : Access) (v : State) (word new : ℕ) → IsGeometry v.cache.shape →
    word ≡ get_or (words_of (line_of v.cache.shape (access.address - access.address % 4)) v.cache.lines) (word_place v.cache.shape (access.address - access.address % 4)) 0 →
    bytes_of 4 new ≡ bytes_after access word → new < 2 ^ 32 →
    lines_left access.op (access.address - access.address % 4) new v.cache ≡ lines_with access v.cache
left_at access v word new shape read leaves fits =
    let spelt : new ≡ number_of (bytes_after access (met_in access v.cache)) =
    sym (number_of-bytes_of 4 new fits) ∙ ap number_of leaves ∙ ap (λ (w : ℕ). number_of (bytes_after access w)) (met_at access v word shape read) in
    let some = some_words v.cache.shape shape in let at : ℕ = access.address - access.address % 4 in
    ap (λ (l : ℕ). lines_after (kind_of access.op) l (word_place v.cache.shape at) new v.cache.lines) (aligned_line v.cache.shape access.address some)
    ∙ ap (λ (p : ℕ). lines_after (kind_of access.op) (line_of v.cache.shape access.address) p new v.cache.lines) (aligned_word v.cache.shape access.address some)
    ∙ ap (λ (n : ℕ). lines_left access.op access.address n v.cache) spelt

pub performed_by : (access : Access) (v w u : State) (word new : ℕ) → IsGeometry v.cache.shape →
    word ≡ get_or (words_of (line_of v.cache.shape (access.address - access.address % 4)) v.cache.lines) (word_place v.cache.shape (access.address - access.address % 4)) 0 →
    bytes_of 4 new ≡ bytes_after access word → new < 2 ^ 32 → w ≡ retired_on access word v →
    u ≡ with_lines (lines_left access.op (access.address - access.address % 4) new w.cache) w → u ≡ performed access v
performed_by access v w u word new shape read leaves fits retires after = after
    ∙ ap (λ (x : State). with_lines (lines_left access.op (access.address - access.address % 4) new x.cache) x) retires
    ∙ ap (λ (ls : List CachedLine). with_lines ls (retired_on access word v)) (left_at access v word new shape read leaves fits)
    ∙ ap (λ (m : ℕ). with_lines (lines_with access v.cache) (retired_on access m v)) (met_at access v word shape read)

-- a line that keeps its way stands at its place
pub place_kept : (line : ℕ) (c d : CacheValue) → d.shape ≡ c.shape → way_of line d.lines ≡ way_of line c.lines → place_of line d ≡ place_of line c
place_kept line c d shape way = ap (λ (g : Geometry). option_map (λ (w : ℕ). set_of g line * g.ways + w) (way_of line d.lines)) shape
    ∙ ap (option_map (λ (w : ℕ). set_of c.shape line * c.shape.ways + w)) way
