-- Two cores of one part agree in all that is read of them.
use Rattle.std.proofs.Common.{◌≡◌, ◌≢◌, ℕ, ◌+◌, ◌*◌, ◌<◌, List, [], ◌++◌, length, Bool, None, if◌then◌else◌, sym, ap, ◌∙◌, subst}
use Rattle.std.proofs.lemmas.List.{ext_get_or}
use Rattle.pmsi_model.specs.declared.Touch.{Touch}
use Rattle.pmsi_model.specs.Job.{JobValue}
use Rattle.pmsi_model.specs.Machine.{CoreState, Request, mode_of}
use Rattle.pmsi_model.specs.Named.{state_in}
use Rattle.pmsi_model.specs.Phase.{Context, context_of, phase, phase_touches}
use Rattle.pmsi_model.specs.Run.{machine_at}
use Rattle.cache_array.specs.Cache.{held_of, words_of}
use Rattle.core_unit.specs.declared.state.State.{State}
use Rattle.core_unit.specs.State.{core_of}
use Rattle.core_unit.specs.Stands.{Carries}
use Rattle.core_unit.specs.Parts.{HasTouches, IsInSlot, own_touches}
use Rattle.core_unit.specs.Laws.{PartsAfterAlike, PartsAlike, ReadAlike}

-- copies of one memory have the same words
copies_alike : (job : JobValue) (c : ℕ) (memory : List ℕ) (u v : State) (line : ℕ) → Carries job c memory u → Carries job c memory v
    → mode_of line (held_of u.cache.lines) ≢ None → mode_of line (held_of v.cache.lines) ≢ None → words_of line u.cache.lines ≡ words_of line v.cache.lines
copies_alike job c memory u v line a b mine yours =
    let size : length (words_of line u.cache.lines) ≡ job.shape.line_words = a.agree.sizes line mine in
    ext_get_or 0 (words_of line u.cache.lines) (words_of line v.cache.lines) (size ∙ sym (b.agree.sizes line yours))
    (λ i below. let within : i < job.shape.line_words = subst (λ (n : ℕ). i < n) size below in
    a.agree.words line i within mine ∙ sym (b.agree.words line i within yours))

in_slot_alike : (job : JobValue) (slot c : ℕ) (y : Context) (posted : List Request) (touches : List Touch) (most : ℕ) (u v : State) → u.keeps ≡ v.keeps → u.phase_done ≡ v.phase_done
    → IsInSlot job slot c y posted u → IsInSlot job slot c y posted v → HasTouches job touches most u → HasTouches job touches most v → ReadAlike u v
in_slot_alike job slot c y posted touches most u v keeps done p q t h =
    let a : Carries job c y.memory u = p.stands.carries in let b : Carries job c y.memory v = q.stands.carries in
    let core : core_of u ≡ core_of v = sym p.stands.core ∙ q.stands.core in record {
      number = a.number ∙ sym b.number;
      shape = a.shape ∙ sym b.shape;
      plan = a.plan ∙ sym b.plan;
      slot = p.now ∙ sym q.now;
      phase_done = done;
      core = core;
      names = λ line. p.knows.names line ∙ ap (λ (k : CoreState). state_in posted c k line) core ∙ sym (q.knows.names line);
      cache = a.cache ∙ sym b.cache;
      words = λ line held. copies_alike job c y.memory u v line a b (λ none. held (ap (λ (k : CoreState). mode_of line k.held) (sym core) ∙ none)) held;
      rows = p.rows.rows ∙ sym q.rows.rows;
      touches = t.touches ∙ ap (λ (b : Bool). if b then touches else []) keeps ∙ sym h.touches;
    }

pub parts_alike : PartsAlike
parts_alike job slot c u v keeps p q =
    in_slot_alike job slot c (context_of (machine_at job slot) c) (machine_at job slot).posted (own_touches job slot c) (slot * job.shape.quantum) u v
    keeps (p.fresh ∙ sym q.fresh) p.in_slot q.in_slot p.touches q.touches

pub parts_after_alike : PartsAfterAlike
parts_after_alike job slot c u v keeps p q =
    in_slot_alike job slot c (context_of (phase job c (machine_at job slot)) c) (machine_at job slot).posted (own_touches job slot c ++ phase_touches job c (machine_at job slot))
    ((slot + 1) * job.shape.quantum) u v keeps (p.done ∙ sym q.done) p.in_slot q.in_slot p.touches q.touches
