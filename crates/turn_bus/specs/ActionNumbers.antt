-- The number of an action, and the action of a number: 16 times the line, and a tag below 16 that says what was done.
use Rattle.std.specs.Prelude.{◌≡◌, ℕ, ◌+◌, ◌*◌, ◌/◌, ◌%◌, ◌^◌, ◌<◌, ◌==◌, true, false, if◌then◌else◌}
use Rattle.pmsi_model.specs.declared.Action.{Action}
use Rattle.pmsi_model.specs.declared.Action.TheVariants.{Idle, Post, Fill, PostFill, Back}
use Rattle.pmsi_model.specs.declared.Name.{Name}
use Rattle.pmsi_model.specs.declared.Name.TheVariants.{GetS, GetM, Upg}

abbrev pub tag_of_name : Name → ℕ
tag_of_name GetS = 0
tag_of_name GetM = 1
tag_of_name Upg = 2

abbrev pub number_of_action : Action → ℕ
number_of_action Idle = 0
number_of_action (Post name line) = 16 * line + (tag_of_name name + 1)
number_of_action (Fill line) = 16 * line + 4
number_of_action (PostFill name line) = 16 * line + (tag_of_name name + 5)
number_of_action (Back line true) = 16 * line + 8
number_of_action (Back line false) = 16 * line + 9

-- a word is the number of an action. Lines are numbers of 32 bits, so it has 36
abbrev pub IsNumberOf : ℕ → Action → Type 0
IsNumberOf number action = (number ≡ number_of_action action) × (number < 2 ^ 36)

abbrev pub action_by_tag : ℕ → ℕ → Action
action_by_tag tag line =
    if tag == 1 then Post GetS line
    else if tag == 2 then Post GetM line
    else if tag == 3 then Post Upg line
    else if tag == 4 then Fill line
    else if tag == 5 then PostFill GetS line
    else if tag == 6 then PostFill GetM line
    else if tag == 7 then PostFill Upg line
    else if tag == 8 then Back line true
    else if tag == 9 then Back line false
    else Idle

abbrev pub action_of_number : ℕ → Action
action_of_number number = action_by_tag (number % 16) (number / 16)

-- the action of an action's number is that action
abbrev pub ActionsComeBack : Type 0
ActionsComeBack = (action : Action) → action_of_number (number_of_action action) ≡ action
