-- What arrives is taken, or refused, and so is giving up: each refusal by its test. Assumes nothing.
use Rattle.std.specs.Prelude.{Result, Ok, Err}
use Prim.Native.Nat.{ℕ, ◌<◌, ◌≤◌}
use mathlib.Core.Path.{◌≡◌, sym, ap, ◌∙◌}
use mathlib.Core.Bool.{Bool, true, false}
use mathlib.Core.List.{List}
use lib.IntN.{pos}
use lib.ListN.{length}
use borrow.Author.Tests.{lt-ltb, le-ltb, eq-eqb, ne_eqb}
use Rattle.refusals.specs.Refusal.{component_most}
use Rattle.refusals.specs.declared.refusal.Refusal.{Refusal}
use Rattle.refusals.specs.declared.refusal.Refusal.TheVariants.{LongComponent, BadProfile, BadTable}
use Rattle.profile.specs.Access.{access_read}
use Rattle.profile.specs.declared.profile.Profile.{Profile}
use Rattle.lists.specs.Entries.{instances_most}
use Rattle.answers.specs.Reply.{reply, ReplyTo}
use Rattle.answers.specs.declared.reply.Reply.{Reply}
use Rattle.answers.proofs.Numbers.{reply_same}
use Rattle.instances.specs.Run.{instances_of}
use Rattle.rules.specs.Judge.{verdict_no, judge, applied}
use Rattle.rules.specs.declared.error.RequestError.{RequestError}
use Rattle.end.specs.End.{closed, end_good}
use Rattle.end.specs.Taking.{doubted, applied_by, took_by, took, gave_up, Moves, moved, not_moved, takes, gives_up, MovesBy}
use Rattle.end.specs.inner.Refused.{move_refused}
use Rattle.end.specs.declared.end.End.{End}
use Rattle.end.specs.declared.take.Moved.{Moved}

module _ (access : List ℕ) (e : End) where
  module _ (s : List ℕ) where
    pub takes_long : component_most < length s → takes access e s ≡ not_moved e LongComponent
    unfolding takes
    takes_long long = rw (lt-ltb component_most (length s) long)

    module _ (fair : length s ≤ component_most) where
      pub takes_profile : (access_read access).ok ≡ false → takes access e s ≡ not_moved e BadProfile
      unfolding takes
      takes_profile bad = rw (le-ltb component_most (length s) fair, bad)

      module _ (ok : (access_read access).ok ≡ true) where
        pub takes_end : end_good instances_most (access_read access).profile e ≡ false → takes access e s ≡ not_moved e BadTable
        unfolding takes
        takes_end bad = rw (le-ltb component_most (length s) fair, ok, bad)

        pub takes_all :
            end_good instances_most (access_read access).profile e ≡ true →
            takes access e s ≡ moved (took (access_read access).profile e s)
        unfolding takes
        takes_all good = rw (le-ltb component_most (length s) fair, ok, good)

  pub gives_profile : (access_read access).ok ≡ false → gives_up access e ≡ not_moved e BadProfile
  unfolding gives_up
  gives_profile bad = rw bad

  module _ (ok : (access_read access).ok ≡ true) where
    pub gives_end : end_good instances_most (access_read access).profile e ≡ false → gives_up access e ≡ not_moved e BadTable
    unfolding gives_up
    gives_end bad = rw (ok, bad)

    pub gives_all : end_good instances_most (access_read access).profile e ≡ true → gives_up access e ≡ moved (gave_up e)
    unfolding gives_up
    gives_all good = rw (ok, good)

-- with none outstanding nothing changes
pub gave_nothing : (e : End) → (e.outstanding ≡ 1 → ⊥) → gave_up e ≡ e
unfolding gave_up
gave_nothing e free = rw (ne_eqb e.outstanding 1 free)

pub gave_doubt : (e : End) → e.outstanding ≡ 1 → gave_up e ≡ doubted e
unfolding gave_up
gave_doubt e waits = rw (eq-eqb e.outstanding 1 waits)

-- what is refused changes nothing
pub refused_moves :
    (d : Moves) (e : End) (refusal : Refusal) (q : Moved) → d ≡ not_moved e refusal → q ≡ move_refused e refusal → MovesBy d q
refused_moves d e refusal q is made = record { end = rw (is, made); told = rw (is, made) }

pub all_moves :
    (d : Moves) (e next : End) → d ≡ moved e → next ≡ e → MovesBy d (record { end = next; outcome = Ok tt })
all_moves d e next is made = record { end = rw (is, made); told = rw is }

-- ---- a result of an activation or a deactivation

module _ (p : Profile) (e : End) (v : Result Bool RequestError)
    (judged : verdict_no v ≡ judge instances_most p e.operation e.request (instances_of e.picture)) where
  pub applied_passes :
      (renews : Bool) → v ≡ Ok renews →
      closed e.before (applied p e.operation e.request e.picture) e
      ≡ applied_by p e (judge instances_most p e.operation e.request (instances_of e.picture))
  applied_passes renews is = ap (applied_by p e) (sym (ap verdict_no is) ∙ judged)

-- ---- what a reply does, told by the reader's answer

pub took_idle : (p : Profile) (e : End) (s : List ℕ) → (e.outstanding ≡ 1 → ⊥) → e ≡ took p e s
unfolding took
took_idle p e s free = rw (ne_eqb e.outstanding 1 free)

pub took_reply :
    (p : Profile) (e : End) (s : List ℕ) (r q : Reply) → e.outstanding ≡ 1 → ReplyTo (pos e.used) e.operation s r → r ≡ q →
    took_by p e s q ≡ took p e s
unfolding took
took_reply p e s r q waits heard is =
    rw (eq-eqb e.outstanding 1 waits)
    (ap (took_by p e s) (sym is ∙ reply_same r (reply (pos e.used) e.operation s) heard.number heard.values))
