-- What each change of shared memory keeps.
use Rattle.std.proofs.Common.{◌==◌, suc, not, Bool, subst, length-take, length-drop, sym, ◌∙◌, ◌≡◌, ℕ, ◌+◌, ◌*◌, ◌<◌, ◌≤◌, List, [], ◌∷◌, ◌++◌, length, take, drop, Option, Some, option_map, None, true, false, refl, ap, arith, if◌then◌else◌, length-append, length-set}
use mathlib.Core.Logic.{dite}
use native.Mathlib.Decide.{dec_le}
use Rattle.std.specs.List.{All}
use Rattle.std.proofs.lemmas.List.{get_or_past}
use Rattle.std.specs.Prelude.{slice_index_or, slice_set}
use Rattle.std.proofs.lemmas.List.Elements.{All-nil, All-cons, All-append, All-filter}
use Rattle.pmsi_model.specs.declared.Kind.{Kind}
use Rattle.pmsi_model.specs.Machine.{Request, is_write, request_of}
use Rattle.pmsi_model.specs.Shared.{SharedValue, IsShared, IsLine, CanPost, CanWriteBack, owner_in, with_request, without_request, written_back}
use Rattle.memory_lut.specs.declared.entry.Entry.{Entry}
use Rattle.memory_lut.specs.Table.{request_at}
use Rattle.pmsi_model.proofs.Cases.{by_test}
use Rattle.pmsi_model.proofs.Requests.{requests_once_more, requests_once_less}

all_first : (P : Request → Type 0) (r : Request) (rs : List Request) → All P (r ∷ rs) → P r
all_first P r rs all = all 0 r (omega arith)

all_later : (P : Request → Type 0) (r : Request) (rs : List Request) → All P (r ∷ rs) → All P rs
all_later P r rs all k d h = all (suc k) d (omega arith)

-- a core's request has what all have
pub all_request : (P : Request → Type 0) (c : ℕ) (rs : List Request) (r : Request) → All P rs → request_of c rs ≡ Some r → P r
all_request P c [] r all is = absurd (grind arith)
all_request P c (x ∷ rs) r all is =
    by_test (λ o. o ≡ Some r → P r) (x.core == c) (Some x) (request_of c rs)
    (λ here is. let same : x ≡ r = cc in subst P same (all_first P x rs all))
    (λ other is. all_request P c rs r (all_later P x rs all) is)
    is

pub IsShared-with_request : (m : SharedValue) (c line : ℕ) (kind : Kind) → IsShared m → c < m.shape.cores → CanPost c line m → IsShared (with_request c line kind m)
IsShared-with_request m c line kind is below can =
    let r : Request = record { core = c; line = line; kind = kind } in
    record {
      shape = is.shape;
      once = requests_once_more m.posted r is.once can.unposted;
      cores = All-append (λ (r : Request). r.core < m.shape.cores) m.posted (r ∷ []) is.cores (All-cons (λ (r : Request). r.core < m.shape.cores) r [] below (All-nil (λ (r : Request). r.core < m.shape.cores)));
      lines = All-append (λ (r : Request). IsLine m.shape r.line) m.posted (r ∷ []) is.lines (All-cons (λ (r : Request). IsLine m.shape r.line) r [] can.within (All-nil (λ (r : Request). IsLine m.shape r.line)));
      owners = is.owners;
      words = is.words;
    }

-- the line of a request has an owner's place, and its words
pub line_owned : (m : SharedValue) (line : ℕ) → IsShared m → IsLine m.shape line → line < length m.owners
line_owned m line is within = let w = is.shape.least_line in let o = is.owners in grind (arith, w, o, within)

pub line_within : (m : SharedValue) (line : ℕ) → IsShared m → IsLine m.shape line → (line + 1) * m.shape.line_words ≤ length m.words
line_within m line is within = let w = is.words in omega arith

owners_kept : (b : Bool) (owners : List (Option ℕ)) (line : ℕ) (owner : Option ℕ) → length (if b then slice_set owners line owner else owners) ≡ length owners
owners_kept true owners line owner = length-set owners line owner
owners_kept false owners line owner = refl

pub IsShared-without_request : (m : SharedValue) (c : ℕ) (r : Request) → IsShared m → IsShared (without_request c (Some r) m)
IsShared-without_request m c r is = record {
  shape = is.shape;
  once = requests_once_less c m.posted is.once;
  cores = All-filter (λ r. not (r.core == c)) (λ (r : Request). r.core < m.shape.cores) m.posted is.cores;
  lines = All-filter (λ r. not (r.core == c)) (λ (r : Request). IsLine m.shape r.line) m.posted is.lines;
  owners = rw (owners_kept (is_write r.kind) m.owners r.line (Some c)) is.owners;
  words = is.words;
}

-- a line with an owner has a place
owned_place : (owners : List (Option ℕ)) (line c : ℕ) → slice_index_or owners line None ≡ Some c → line < length owners
owned_place owners line c owner = dite (dec_le (length owners) line)
    (λ past. let none = get_or_past owners line None past in absurd (cc))
    (λ below. omega arith)

-- the words of an owned line
pub owned_within : (m : SharedValue) (c line : ℕ) → IsShared m → owner_in m line ≡ Some c → (line + 1) * m.shape.line_words ≤ length m.words
owned_within m c line is owner =
    let below : line < length m.owners = owned_place m.owners line c owner in
    let o = is.owners in let w = is.words in
    grind (arith, o, w, below)

replaced_length : (n i : ℕ) (ws words : List ℕ) → length words ≡ n → (i + 1) * n ≤ length ws
    → length (take (i * n) ws ++ words ++ drop ((i + 1) * n) ws) ≡ length ws
replaced_length n i ws words long within = grind (arith, length-append {A = ℕ}, length-take {A = ℕ}, length-drop {A = ℕ})

pub IsShared-written_back : (m : SharedValue) (c line : ℕ) (words : List ℕ) → IsShared m → CanWriteBack c line words m → IsShared (written_back line words m)
IsShared-written_back m c line words is can =
    let count = can.count in
    let within : (line + 1) * length words ≤ length m.words = rw count (owned_within m c line is can.owner) in
    record {
      shape = is.shape;
      once = is.once;
      cores = is.cores;
      lines = is.lines;
      owners = rw length-set is.owners;
      words = rw (replaced_length (length words) line m.words words refl within) is.words;
    }

-- the line of a request that was found is one of memory
pub found_line : (m : SharedValue) (c : ℕ) (o : Option Entry) (e : Entry) → IsShared m → option_map request_at o ≡ request_of c m.posted → o ≡ Some e → IsLine m.shape e.line
found_line m c o e is found here =
    all_request (λ (r : Request). IsLine m.shape r.line) c m.posted (request_at e) is.lines (sym found ∙ ap (option_map request_at) here)
