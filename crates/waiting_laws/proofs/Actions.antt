-- What is left for a want falls with the action of a slot, whatever it is.
use Rattle.std.proofs.Common.{◌≡◌, ℕ, ◌+◌, ◌<◌, List, [], ◌∷◌, Option, Some, None, is_some, Bool, true, false, refl, sym, ap, ◌∙◌, subst, arith}
use mathlib.Core.Logic.{dite}
use native.Mathlib.Decide.{ℕ_discrete}
use Rattle.std.specs.Option.{option_map}
use Rattle.pmsi_model.specs.declared.Action.{Action}
use Rattle.pmsi_model.specs.declared.Action.TheVariants.{Idle, Post, Fill, PostFill, Back}
use Rattle.pmsi_model.specs.declared.Kind.{Kind}
use Rattle.pmsi_model.specs.declared.Want.{Want}
use Rattle.pmsi_model.specs.Job.{JobValue}
use Rattle.pmsi_model.specs.Run.{slot_owner}
use Rattle.pmsi_model.specs.Machine.{Machine, CoreState, mode_in}
use Rattle.pmsi_model.specs.Bus.{is_served, can_request_for, requests_now, name_of, kind_of_name, post, post_at, fill, fill_for, write_back, clear_victim, keeps_line, post_action, request_action, back_action, action_of, after_action}
use Rattle.pmsi_model.proofs.Cases.{by_test}
use Rattle.pmsi_model.proofs.Changes.{post-own, post-other, noted-want, fill-own, fill-other, write_back-own, write_back-other}
use Rattle.coherence_laws.proofs.Exports.{IsWhole, back_whole, kind_named, unposted_now}
use Rattle.waiting_laws.proofs.Requests.{FallsTo, post_falls, fill_falls, post_fill_falls}
use Rattle.waiting_laws.proofs.Backs.{idle_falls, back_falls}

post_action_falls : (job : JobValue) (x : Machine) (w : ℕ) (v : Want) (c : ℕ) (want : Want) → IsWhole job.shape (x.slot + 1) x.posted x.cores
    → slot_owner job x ≡ w → w < job.shape.cores → requests_now job x w ≡ true → (x.cores w).want ≡ Some v → v.post ≡ None → v.victim ≡ None
    → c < job.shape.cores → (x.cores c).want ≡ Some want → FallsTo job x c want (after_action x w (post_action job x w v))
unfolding after_action
post_action_falls job x w v c want whole owner w_below now is unposted free below wants =
    let same = kind_named v.kind (mode_in x w v.line) in
    by_test (λ a. FallsTo job x c want (after_action x w a)) (is_served job (post x w v.kind v.line) w v.line)
    (PostFill (name_of v.kind (mode_in x w v.line)) v.line) (Post (name_of v.kind (mode_in x w v.line)) v.line)
    (λ served. subst (λ (kind : Kind). FallsTo job x c want (fill (post x w kind v.line) w)) (sym same)
    (post_fill_falls job x w v c want whole owner w_below now is unposted free served below wants))
    (λ waits. subst (λ (kind : Kind). FallsTo job x c want (post x w kind v.line)) (sym same)
    (post_falls job x w v c want whole owner w_below now is unposted free below wants))

request_action_falls : (job : JobValue) (x : Machine) (w : ℕ) (o : Option Want) (c : ℕ) (want : Want) → IsWhole job.shape (x.slot + 1) x.posted x.cores
    → slot_owner job x ≡ w → w < job.shape.cores → requests_now job x w ≡ true → (x.cores w).want ≡ o
    → can_request_for job x w o ≡ true
    → c < job.shape.cores → (x.cores c).want ≡ Some want → FallsTo job x c want (after_action x w (request_action job x w o))
unfolding after_action
request_action_falls job x w None c want whole owner w_below now is can below wants = absurd (grind arith)
request_action_falls job x w (Some v) c want whole owner w_below now is can below wants =
    by_test (λ a. FallsTo job x c want (after_action x w a)) (is_some v.post) (Fill v.line) (post_action job x w v)
    (λ posted. fill_falls job x w v c want whole owner w_below now is posted (grind arith) below wants)
    (λ waits. post_action_falls job x w v c want whole owner w_below now is (grind arith) (unposted_now job x w v is waits now) below wants)

back_action_falls : (job : JobValue) (x : Machine) (w : ℕ) (lines : List ℕ) (c : ℕ) (want : Want) → IsWhole job.shape (x.slot + 1) x.posted x.cores
    → slot_owner job x ≡ w → w < job.shape.cores → requests_now job x w ≡ false → (x.cores w).write_backs ≡ lines
    → c < job.shape.cores → (x.cores c).want ≡ Some want → FallsTo job x c want (after_action x w (back_action x w lines))
unfolding after_action
back_action_falls job x w [] c want whole owner w_below later is below wants = idle_falls job x w c want whole owner later is below wants
back_action_falls job x w (line ∷ lines) c want whole owner w_below later is below wants =
    back_falls job x w line lines (keeps_line x w line) c want whole (back_whole job.shape (x.slot + 1) x w line lines whole w_below is) owner w_below later is below wants

pub action_falls : (job : JobValue) (x : Machine) (w c : ℕ) (want : Want) → IsWhole job.shape (x.slot + 1) x.posted x.cores
    → slot_owner job x ≡ w → w < job.shape.cores → c < job.shape.cores → (x.cores c).want ≡ Some want
    → FallsTo job x c want (after_action x w (action_of job x w))
unfolding action_of
action_falls job x w c want whole owner w_below below wants =
    by_test (λ a. FallsTo job x c want (after_action x w a)) (requests_now job x w) (request_action job x w (x.cores w).want) (back_action x w (x.cores w).write_backs)
    (λ now. request_action_falls job x w (x.cores w).want c want whole owner w_below now refl (grind arith) below wants)
    (λ later. back_action_falls job x w (x.cores w).write_backs c want whole owner w_below later refl below wants)

-- ---- no want begins in an action

post_none : (x : Machine) (w c : ℕ) (kind : Kind) (line : ℕ) → (x.cores c).want ≡ None → ((post x w kind line).cores c).want ≡ None
post_none x w c kind line none = dite (ℕ_discrete c w)
    (λ same. subst (λ (n : ℕ). ((post x w kind line).cores n).want ≡ None) (sym same)
    (ap (λ (k : CoreState). k.want) (post-own x w kind line) ∙ ap (option_map (post_at x.slot)) (subst (λ (n : ℕ). (x.cores n).want ≡ None) same none)))
    (λ other. ap (λ (k : CoreState). k.want) (post-other x w c kind line other) ∙ noted-want kind line (x.cores c) ∙ none)

fill-nothing : (x : Machine) (w : ℕ) → (x.cores w).want ≡ None → fill x w ≡ x
unfolding fill
fill-nothing x w none = ap (fill_for x w) none

fill_none_in : (x : Machine) (w c : ℕ) (o : Option Want) → (x.cores w).want ≡ o → (x.cores c).want ≡ None → ((fill x w).cores c).want ≡ None
fill_none_in x w c None is none = ap (λ (y : Machine). (y.cores c).want) (fill-nothing x w is) ∙ none
fill_none_in x w c (Some v) is none = dite (ℕ_discrete c w)
    (λ same. subst (λ (n : ℕ). ((fill x w).cores n).want ≡ None) (sym same) (ap (λ (k : CoreState). k.want) (fill-own x w v is)))
    (λ other. ap (λ (k : CoreState). k.want) (fill-other x w c other) ∙ none)

write_back_none : (x : Machine) (w c line : ℕ) (kept : Bool) → (x.cores c).want ≡ None → ((write_back x w line kept).cores c).want ≡ None
write_back_none x w c line kept none = dite (ℕ_discrete c w)
    (λ same. subst (λ (n : ℕ). ((write_back x w line kept).cores n).want ≡ None) (sym same)
    (ap (λ (k : CoreState). k.want) (write_back-own x w line kept) ∙ ap (option_map (clear_victim line)) (subst (λ (n : ℕ). (x.cores n).want ≡ None) same none)))
    (λ other. ap (λ (k : CoreState). k.want) (write_back-other x w line kept c other) ∙ none)

pub action_none : (x : Machine) (w c : ℕ) (action : Action) → (x.cores c).want ≡ None → ((after_action x w action).cores c).want ≡ None
unfolding after_action
action_none x w c Idle none = none
action_none x w c (Post name line) none = post_none x w c (kind_of_name name) line none
action_none x w c (Fill line) none = fill_none_in x w c (x.cores w).want refl none
action_none x w c (PostFill name line) none = let y : Machine = post x w (kind_of_name name) line in
    fill_none_in y w c (y.cores w).want refl (post_none x w c (kind_of_name name) line none)
action_none x w c (Back line kept) none = write_back_none x w c line kept none
