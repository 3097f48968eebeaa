-- Laws of courses, and of the orders in which files are read.
use Rattle.std.specs.Prelude.{◌≡◌, ◌↔◌, ◌<◌, ℕ, List, [], ◌∷◌, ◌++◌, Option, Some, None}
use Rattle.std.specs.List.{All}
use Rattle.pmsi_outside.specs.Files.{Contents}
use Rattle.tool_words.specs.Meaning.{AskedValue}
use Rattle.tool_files.specs.Course.{Step, Comes, IsEnd}
use Rattle.tool_files.specs.Ordered.{Helds, IsNext, Opens, Follows}

-- where contents are told, a command comes to one end
abbrev pub OneEnd : Type 0
OneEnd =
    (contents : Contents) (asked : AskedValue) (step other : Step (List ℕ)) → IsEnd step → IsEnd other
    → Comes (Some contents) asked step → Comes (Some contents) asked other → step ≡ other

-- what comes on some bytes is one name, one refusal or one text
abbrev pub OneNext : Type 0
OneNext =
    (contents : Option Contents) (asked : AskedValue) (helds : Helds) (step other : Step (List ℕ))
    → IsNext contents asked helds step → IsNext contents asked helds other → step ≡ other

-- at first something comes
abbrev pub SomeFirst : Type 0
SomeFirst = (asked : AskedValue) → (step : Step (List ℕ)) × IsNext None asked [] step

-- where the bytes so far open a name, something comes on the bytes of that file
abbrev pub SomeNext : Type 0
SomeNext =
    (asked : AskedValue) (helds : Helds) (name held : List ℕ) → All (λ byte. byte < 256) held → Opens asked helds name
    → (step : Step (List ℕ)) × IsNext None asked (helds ++ held ∷ []) step

-- a course is an order of some bytes
abbrev pub SameCourse : Type 0
SameCourse =
    (contents : Option Contents) (asked : AskedValue) (step : Step (List ℕ))
    → Comes contents asked step ↔ ((helds : Helds) × IsNext contents asked helds step)

-- reading in order is reading each file where its name is opened, and what comes is so by the bytes alone
abbrev pub SameOrder : Type 0
SameOrder =
    (contents : Option Contents) (asked : AskedValue) (helds : Helds) (step : Step (List ℕ))
    → IsNext contents asked helds step ↔ (Follows contents asked [] helds × IsNext None asked helds step)
