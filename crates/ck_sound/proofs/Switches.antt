-- A switch, the unlock check, and a reschedule.
use Rattle.std.proofs.Common.{◌≡◌, ℕ, zero, suc, ◌<◌, ◌%◌, Bool, true, false, not, cond, List, [], get_or, set, pos}
use Rattle.std.proofs.Common.{Option, Some, None, refl, sym, ap, ap₂, ◌∙◌, subst, arith, mod-lt, get_or-set_same}
use Rattle.std.specs.List.{AllZip}
use Rattle.ck_base.specs.declared.ops.Op.{Op}
use Rattle.ck_base.specs.declared.ops.Op.TheVariants.{Unlock}
use Rattle.ck_base.specs.declared.states.State.{State}
use Rattle.ck_base.specs.declared.states.State.TheVariants.{TI, TN, TL, TP, XL, NL, NP}
use Rattle.ck_base.specs.Counters.{counters, halt_of}
use Rattle.ck_sound.specs.declared.threads.Left.{Left}
use Rattle.ck_sound.specs.declared.threads.Left.TheVariants.{New, Preempted, InNormalCall, InSCall}
use Rattle.ck_sound.specs.declared.threads.Thread.{Thread}
use Rattle.ck_sound.specs.declared.threads.ThreadStatus.{ThreadStatus}
use Rattle.ck_sound.specs.declared.threads.ThreadStatus.TheVariants.{Running, Ready}
use Rattle.ck_sound.specs.Choices.{first, later}
use Rattle.ck_sound.specs.Kernel.{Kernel, Done, running_thread, checked}
use Rattle.ck_sound.specs.Sound.{Fits, is_off, fits_left, AreLinked, Holds, Survives}
use Rattle.ck_sound.specs.Switch.{unlocked, unlocked_by, unlocked_at, started, goes_on, switched, switched_to, left_as}
use Rattle.ck_sound.specs.Switch.{rescheduled}
use Rattle.ck_sound.specs.SystemStates.{is_thread, in_section, is_normal, locked, phase_of}
use Rattle.ck_sound.specs.Threads.{is_ready, is_best, ready_above, count, nth_place, thread_at, no_thread}
use Rattle.ck_sound.specs.declared.kernel.Phase.TheVariants as in_phase
use Rattle.ck_sound.proofs.Lists.{zip-set, zip-set_left, zip-get}
use Rattle.ck_sound.proofs.ReadyThreads.{Passes, nth-passes, priority-set, length_set, above-set, and-left, and-right}
use Rattle.ck_sound.proofs.ReadyThreads.{not-true}

-- what a switch needs: no handler, and each thread that is ready or waits fits
pub record MayLeave (kp : ℕ) (k : Kernel) (states : List State) : Type 0 where
  pub fits : AllZip Fits k.threads states
  pub phase : k.phase ≡ in_phase.Normal
  pub linked : AreLinked kp k.handlers []
  pub isr_cnt : k.isr_cnt ≡ 0
  pub leaving : k.leaving ≡ false

-- a state in which a thread may get the processor
record CanRun (s : State) : Type 0 where
  thread : is_thread s ≡ true
  phase : in_phase.Normal ≡ phase_of s
  later : s ≡ TI → ⊥

can-run_zone : (s : State) → in_section s ≡ true → CanRun s
can-run_zone TL e = record { thread = refl; phase = refl; later = λ f. cc }
can-run_zone TP e = record { thread = refl; phase = refl; later = λ f. cc }
can-run_zone XL e = record { thread = refl; phase = refl; later = λ f. cc }
can-run_zone NL e = record { thread = refl; phase = refl; later = λ f. cc }
can-run_zone NP e = record { thread = refl; phase = refl; later = λ f. cc }
can-run_zone _ e = absurd (cc)

locked-zone : (s : State) → in_section s ≡ true → 1 ≡ locked s
locked-zone TL e = refl
locked-zone TP e = refl
locked-zone XL e = refl
locked-zone NL e = refl
locked-zone NP e = refl
locked-zone _ e = absurd (cc)

pub normal-is : (s : State) → is_normal s ≡ true → s ≡ TN
normal-is TN e = refl
normal-is _ e = absurd (cc)

ready-off : (s : ThreadStatus) → is_ready s ≡ true → is_off s ≡ true
ready-off Ready e = refl
ready-off _ e = absurd (cc)

started-holds : (kp : ℕ) (k : Kernel) (states : List State) (place : ℕ) (s : State) (lock : ℕ) → MayLeave kp k states →
    Passes (is_best k.threads) k.threads place → get_or states place TN ≡ s → CanRun s → lock ≡ locked s →
    Holds kp (record (started k place) { lock_cnt = lock }) states s []
started-holds kp k states place s lock h found here can is_lock =
    let t : Thread = record (thread_at k.threads place) { status = Running } in
    let same : (thread_at (set k.threads place t) place).priority ≡ (thread_at k.threads place).priority =
    priority-set k.threads place place t refl in
    let best : ready_above k.threads (thread_at k.threads place).priority ≡ false =
    not-true (ready_above k.threads (thread_at k.threads place).priority)
    (and-right (is_ready (thread_at k.threads place).status)
    (not (ready_above k.threads (thread_at k.threads place).priority)) found.passes) in
    record {
      there = omega (arith, found.within, length_set k.threads place t);
      is_now = here;
      fits = zip-set_left Fits k.threads states place t TN h.fits (λ e. absurd (cc));
      runs = ap (λ (x : Thread). is_off x.status) (get_or-set_same k.threads place t no_thread found.within);
      thread = can.thread;
      phase = h.phase ∙ can.phase;
      linked = h.linked;
      is_nest = refl;
      under = λ e. absurd (cc);
      isr_cnt = h.isr_cnt;
      lock_cnt = is_lock;
      leaving = h.leaving;
      order =
          λ e f. subst (λ p. ready_above (set k.threads place t) p ≡ false) (sym same)
          (above-set k.threads (thread_at k.threads place).priority place t best refl);
      alone = λ e. absurd (can.later e);
      positive = λ e. absurd (can.later e);
    }

pub checked-by : (op : Op) (k : Kernel) (isr lock : ℕ) → k.isr_cnt ≡ isr → k.lock_cnt ≡ lock →
    checked k op ≡ halt_of op (counters (pos isr) (pos lock))
checked-by op k isr lock e f = ap₂ (λ i l. halt_of op (counters (pos i) (pos l))) e f

unlocked-by :
    (kp : ℕ) (at : Bool) (o : Option ℕ) (b : Bool) (k : Kernel) (choices : List ℕ) (states : List State) (s : State)
    (nest : List State) →
    o ≡ None → b ≡ false → Holds kp (record k { lock_cnt = 0 }) states s nest →
    Survives kp (unlocked_by at o b k choices) states nest
unlocked-by kp at None false k choices states s nest e f h = (s, h)
unlocked-by kp at None true k choices states s nest e f h = absurd (cc)
unlocked-by kp at (Some n) b k choices states s nest e f h = absurd (cc)

pub unlocked_at-survives :
    (kp : ℕ) (at : Bool) (k : Kernel) (choices : List ℕ) (states : List State) (s : State) (nest : List State) →
    k.isr_cnt ≡ 0 → k.lock_cnt ≡ 1 → ready_above k.threads (running_thread k).priority ≡ false →
    Holds kp (record k { lock_cnt = 0 }) states s nest → Survives kp (unlocked_at at k choices) states nest
unlocked_at-survives kp at k choices states s nest isr lock none h =
    unlocked-by kp at (checked k Unlock) (ready_above k.threads (running_thread k).priority) k choices states s nest
    (checked-by Unlock k 0 1 isr lock) none h

pub unlocked-survives : (kp : ℕ) (k : Kernel) (choices : List ℕ) (states : List State) (s : State) (nest : List State) →
    k.isr_cnt ≡ 0 → k.lock_cnt ≡ 1 → ready_above k.threads (running_thread k).priority ≡ false →
    Holds kp (record k { lock_cnt = 0 }) states s nest → Survives kp (unlocked k choices) states nest
unlocked-survives kp k choices states s nest isr lock none h =
    unlocked_at-survives kp false k choices states s nest isr lock none h

goes-on_unlocked : (kp : ℕ) (k : Kernel) (choices : List ℕ) (states : List State) (place : ℕ) → MayLeave kp k states →
    Passes (is_best k.threads) k.threads place → is_normal (get_or states place TN) ≡ true →
    Survives kp (unlocked_at true (started (record k { lock_cnt = 1 }) place) choices) states []
goes-on_unlocked kp k choices states place h found fit =
    let holds : Holds kp (record (started k place) { lock_cnt = 0 }) states TN [] =
    started-holds kp k states place TN 0 h found (normal-is (get_or states place TN) fit)
    (record { thread = refl; phase = refl; later = λ f. cc }) refl in
    unlocked_at-survives kp true (started (record k { lock_cnt = 1 }) place) choices states TN [] h.isr_cnt refl
    (holds.order refl refl) holds

goes-on : (kp : ℕ) (left : Left) (k : Kernel) (choices : List ℕ) (states : List State) (place : ℕ) →
    MayLeave kp k states → Passes (is_best k.threads) k.threads place → fits_left left (get_or states place TN) ≡ true →
    Survives kp (goes_on left (started (record k { lock_cnt = 1 }) place) choices) states []
goes-on kp InSCall k choices states place h found fit = (
  get_or states place TN,
  started-holds kp k states place (get_or states place TN) 1 h found refl
      (can-run_zone (get_or states place TN) fit) (locked-zone (get_or states place TN) fit),
)
goes-on kp New k choices states place h found fit = goes-on_unlocked kp k choices states place h found fit
goes-on kp Preempted k choices states place h found fit = goes-on_unlocked kp k choices states place h found fit
goes-on kp InNormalCall k choices states place h found fit = goes-on_unlocked kp k choices states place h found fit

switched-to : (kp : ℕ) (n : ℕ) (k : Kernel) (choices : List ℕ) (states : List State) → MayLeave kp k states →
    count (is_best k.threads) k.threads ≡ n → Survives kp (switched_to n (record k { lock_cnt = 1 }) choices) states []
switched-to kp zero k choices states h e = tt
switched-to kp (suc n) k choices states h e =
    let place : ℕ = nth_place (is_best k.threads) k.threads (first choices % suc n) in
    let t : Thread = thread_at k.threads place in
    let within : first choices % suc n < suc n = mod-lt (first choices) (omega arith) in
    let found : Passes (is_best k.threads) k.threads place =
    nth-passes (is_best k.threads) k.threads (first choices % suc n) (omega (arith, within, e)) in
    let ready : is_ready t.status ≡ true =
    and-left (is_ready t.status) (not (ready_above k.threads t.priority)) found.passes in
    let fits : Fits t (get_or states place TN) = zip-get Fits k.threads states place no_thread TN h.fits found.within in
    goes-on kp t.left k (later choices) states place h found (fits (ready-off t.status ready))

-- a switch to any thread that is ready
pub switched-survives : (kp : ℕ) (k : Kernel) (choices : List ℕ) (states : List State) → MayLeave kp k states →
    Survives kp (switched k choices) states []
unfolding switched
switched-survives kp k choices states h = switched-to kp (count (is_best k.threads) k.threads) k choices states h refl

-- A thread leaves the processor in a state that fits how it leaves.
pub leave-may : (kp : ℕ) (k : Kernel) (states : List State) (status : ThreadStatus) (left : Left) (s : State) →
    MayLeave kp k states → (is_off status ≡ true → fits_left left s ≡ true) →
    MayLeave kp (left_as status left k) (set states k.running s)
leave-may kp k states status left s h fit = record {
  fits =
      zip-set Fits k.threads states k.running (record (running_thread k) { status = status; left = left }) s h.fits fit;
  phase = h.phase;
  linked = h.linked;
  isr_cnt = h.isr_cnt;
  leaving = h.leaving;
}

pub left-survives :
    (kp : ℕ) (k : Kernel) (choices : List ℕ) (states : List State) (status : ThreadStatus) (left : Left) (s : State) →
    MayLeave kp k states → (is_off status ≡ true → fits_left left s ≡ true) →
    Survives kp (switched (left_as status left k) choices) (set states k.running s) []
left-survives kp k choices states status left s h fit =
    switched-survives kp (left_as status left k) choices (set states k.running s)
    (leave-may kp k states status left s h fit)

-- a reschedule, and what else happens where no thread is above
rescheduled-by :
    (kp : ℕ) (b : Bool) (left : Left) (otherwise : Done) (k : Kernel) (choices : List ℕ) (states : List State)
    (s : State) →
    MayLeave kp k states → fits_left left s ≡ true → (b ≡ false → Survives kp otherwise (set states k.running s) []) →
    Survives kp (cond b (switched (left_as Ready left k) choices) otherwise) (set states k.running s) []
rescheduled-by kp true left otherwise k choices states s h fit else =
    left-survives kp k choices states Ready left s h (λ e. fit)
rescheduled-by kp false left otherwise k choices states s h fit else = else refl

pub rescheduled-survives :
    (kp : ℕ) (left : Left) (otherwise : Kernel → List ℕ → Done) (k : Kernel) (choices : List ℕ) (states : List State)
    (s : State) →
    MayLeave kp k states → fits_left left s ≡ true →
    (ready_above k.threads (running_thread k).priority ≡ false → Survives kp (otherwise k choices)
    (set states k.running s) []) →
    Survives kp (rescheduled left otherwise k choices) (set states k.running s) []
rescheduled-survives kp left otherwise k choices states s h fit else =
    rescheduled-by kp (ready_above k.threads (running_thread k).priority) left
    (otherwise k choices) k choices states s h fit else

-- a choice between two acts
pub either-survives : (kp : ℕ) (b : Bool) (one other : Done) (states nest : List State) → Survives kp one states nest →
    Survives kp other states nest → Survives kp (cond b one other) states nest
either-survives kp true one other states nest h g = h
either-survives kp false one other states nest h g = g
