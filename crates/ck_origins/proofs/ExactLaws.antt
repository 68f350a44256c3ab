-- By rules that model a project the functions and the targets are those of the project.
use Rattle.std.proofs.Common.{◌≡◌, ◌↔◌, ℕ, refl, subst}
use Rattle.ck_prog.specs.TypedTrees.{facts}
use Rattle.ck_reaching.specs.Reaching as rules
use Rattle.ck_reaching.specs.Rules.{System}
use Rattle.ck_slots.specs.Givens.{TypedProject}
use Rattle.ck_slots.specs.Holders.{Holder, ThreadSink, TimerSink, of_slot}
use Rattle.ck_slots.specs.Origins.{Held, called_type, origin}
use Rattle.ck_slots.specs.Reaching.{ComesFrom, IsTarget, Reaches}
use Rattle.ck_origins.specs.Laws.{CellsAreExact, SlotsAreExact, ThreadsAreExact, TimersAreExact, TargetsAreExact}
use Rattle.ck_origins.specs.Laws.{ListedTargetsAreExact}
use Rattle.ck_origins.specs.Meanings.{Meanings, origin_at, type_at}
use Rattle.ck_origins.specs.Modelling.{Models, slot_cell, thread_cell, timer_cell}
use Rattle.ck_origins.proofs.Cells.{held_reaches}
use Rattle.ck_origins.proofs.Completeness.{comes, complete, target_of}
use Rattle.ck_origins.proofs.Soundness.{sound, target_sound}

pub cells_are_exact : CellsAreExact
cells_are_exact p m s models cell f =
    (sound p m s models.stand.follow cell f, λ from. comes p m s models f (origin_at m cell) from cell refl)

holders_are_exact : (p : TypedProject) (m : Meanings) (s : System) → Models p m s → (cell : ℕ) (h : Holder) (f : ℕ)
    → origin_at m cell ≡ Held h → rules.Reaches s cell f ↔ Reaches p f h
holders_are_exact p m s models cell h f is = (
  λ reaches. held_reaches p f h (subst (ComesFrom p f) is (sound p m s models.stand.follow cell f reaches)),
  λ reaches. complete p m s models f h reaches cell is,
)

pub slots_are_exact : SlotsAreExact
slots_are_exact p m s models slot there f =
    holders_are_exact p m s models (slot_cell p slot) (of_slot slot) f (models.numbers.of_slots slot there)

pub threads_are_exact : ThreadsAreExact
threads_are_exact p m s models f =
    holders_are_exact p m s models (thread_cell p) ThreadSink f models.numbers.threads

pub timers_are_exact : TimersAreExact
timers_are_exact p m s models f = holders_are_exact p m s models (timer_cell p) TimerSink f models.numbers.timers

pub targets_are_exact : TargetsAreExact
targets_are_exact p m s models x call calls f = (
  λ reached.
      let called = subst (λ o. IsTarget p (type_at m call.kind.0) o f) calls.called
      (target_sound p m s models.stand.follow call f reached) in
      subst (λ t. IsTarget p t (origin p.all x) f) calls.kind called,
  λ reached.
      target_of p m s models (called_type (facts x)) (origin p.all x) f reached call calls.kind calls.called,
)

pub listed_targets_are_exact : ListedTargetsAreExact
listed_targets_are_exact p m s models x call calls targets are f =
    let exact = targets_are_exact p m s models x call calls f.0 in
    (λ there. exact.0 ((are.exactly f).0 there), λ reached. (are.exactly f).1 (exact.1 reached))
