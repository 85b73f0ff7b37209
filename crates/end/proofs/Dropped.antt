-- "Anything else that arrives is dropped" (document 01, "The customer end"): a late reply, a second one, and what is no reply change
-- nothing. Assumes nothing.
use Prim.Native.Nat.{ℕ}
use mathlib.Core.Path.{◌≡◌, refl, ap}
use mathlib.Core.List.{List}
use lib.IntN.{ℤ, pos}
use lib.ListN.{length}
use lib.Dec.{eqb}
use borrow.Author.Tests.{ne_eqb}
use Rattle.laws.specs.Got.{got, wrong}
use Rattle.laws.proofs.Picks.{by_bool}
use Rattle.octets.specs.Part.{Part, part_at}
use Rattle.values.specs.Ident.{ident_at}
use Rattle.skip.specs.Depth.{inside_depth, component_depth}
use Rattle.lists.specs.declared.entry.Entry.{Entry}
use Rattle.answers.specs.Answer.{answer_octets}
use Rattle.answers.specs.declared.answer.Answer.TheVariants.{Reject}
use Rattle.answers.specs.declared.answer.Problem.{Problem}
use Rattle.answers.specs.declared.answer.Whose.TheVariants.{Null}
use Rattle.answers.specs.Reply.{reply}
use Rattle.answers.specs.declared.reply.Reply.TheVariants.{Dropped}
use Rattle.answers.proofs.Answers.{null_back}
use Rattle.answers.proofs.Dropped as dropped
use Rattle.end.specs.Taking.{took_by, took, takes}
use Rattle.end.specs.declared.end.End.{End}
use Rattle.end.proofs.Steps.{ours, takes_ind}

-- a component that is no reply to the outstanding request leaves the end octet for octet as it was
pub dropped_stays : (access : List ℕ) (e : End) (s : List ℕ) → reply (pos e.used) e.operation s ≡ Dropped → (takes access e s).end ≡ e
unfolding took
dropped_stays access e s drops =
    takes_ind access e s (λ m. m.end ≡ e) (λ _. refl) (λ _ _ _.
    by_bool (took (ours access) e s ≡ e) (eqb e.outstanding 1)
    (λ w. rw w (ap (took_by (ours access) e s) drops))
    (λ w. rw w))

-- why a component is no reply to the outstanding request, by its octets
pub data Stray (e : End) (s : List ℕ) : Type 0 where
  -- it does not begin with an element
  no_element : part_at component_depth s 0 (length s) ≡ wrong → Stray e s
  -- it goes on after its first element
  goes_on : (c : Part) (next : ℕ) → part_at component_depth s 0 (length s) ≡ got c next → (next ≡ length s → ⊥) → Stray e s
  -- it is a request, tag A1
  request : (c : Part) (next : ℕ) → part_at component_depth s 0 (length s) ≡ got c next → c.tag ≡ 0xA1 → Stray e s
  -- something else stands where the identifier should: NULL, tag 05, among them
  null :
      (c : Part) (next : ℕ) → part_at component_depth s 0 (length s) ≡ got c next →
      (element : Part) (place : ℕ) → part_at inside_depth s c.start c.stop ≡ got element place → (element.tag ≡ 0x02 → ⊥) → Stray e s
  -- it has another identifier: a reply to an earlier request, or to none
  other :
      (c : Part) (next : ℕ) → part_at component_depth s 0 (length s) ≡ got c next →
      (identifier : ℤ) (place : ℕ) → ident_at inside_depth s c.start c.stop ≡ got identifier place →
      (identifier ≡ pos e.used → ⊥) → Stray e s

-- such a component changes nothing
pub late_dropped : (access : List ℕ) (e : End) (s : List ℕ) → Stray e s → (takes access e s).end ≡ e
late_dropped access e s why = dropped_stays access e s (drops why)
  where
    drops : Stray e s → reply (pos e.used) e.operation s ≡ Dropped
    drops (no_element none) = dropped.no_element (pos e.used) e.operation s none
    drops (goes_on c next is more) = dropped.not_filling (pos e.used) e.operation s c next is more
    drops (request c next is a1) = dropped.request_dropped (pos e.used) e.operation s c next is a1
    drops (null c next is element place stands tag) =
        dropped.null_identifier (pos e.used) e.operation s c next is element place stands tag
    drops (other c next is identifier place stands differs) =
        dropped.other_identifier (pos e.used) e.operation s c next is identifier place stands differs

-- with nothing outstanding whatever arrives leaves the end as it was
pub idle_dropped : (access : List ℕ) (e : End) (s : List ℕ) → (e.outstanding ≡ 1 → ⊥) → (takes access e s).end ≡ e
unfolding took
idle_dropped access e s free =
    takes_ind access e s (λ m. m.end ≡ e) (λ _. refl) (λ _ _ _. rw (ne_eqb e.outstanding 1 free))

-- a reject that carries NULL for its identifier, as the exchange writes it, leaves the end as it was
pub null_dropped :
    (access : List ℕ) (e : End) (problem : Problem) (es : List Entry) →
    (takes access e (answer_octets (Reject Null problem) es)).end ≡ e
null_dropped access e problem es =
    dropped_stays access e (answer_octets (Reject Null problem) es) (null_back (pos e.used) e.operation problem es)
