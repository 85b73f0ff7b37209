-- Marks, and what it means that an end breaks no rule. Assumes nothing.
use Prim.Native.Nat.{ℕ, zero, suc, ◌≤◌}
use mathlib.Core.Path.{◌≡◌, refl}
use mathlib.Core.Bool.{true}
use mathlib.Core.List.{List, [], ◌∷◌}
use lib.ListN.{length, get_or-eq_default}
use lib.Dec.{leb}
use borrow.Author.Tests.{leb-true}
use Rattle.laws.specs.Tests.{all}
use Rattle.laws.specs.Mark.{doubt, mark_no}
use Rattle.laws.proofs.Picks.{pick_last, pick_then}
use Rattle.laws.proofs.Filled.{set_past}
use Rattle.profile.specs.declared.profile.Profile.{Profile}
use Rattle.instances.specs.Run.{run_good}
use Rattle.end.specs.End.{mark_at, marked, used_most, end_rules, end_good}
use Rattle.end.specs.declared.end.End.{End}

-- a procedure that has no mark is in doubt, and none is put there
pub mark_past : (procedure : ℕ) (marks : List ℕ) → length marks ≤ procedure → mark_at procedure marks ≡ mark_no doubt
unfolding mark_at
mark_past procedure marks h = get_or-eq_default marks (mark_no doubt) h

-- where all are in doubt, each is
pub mark_doubt : (procedure : ℕ) → mark_at procedure (mark_no doubt ∷ mark_no doubt ∷ mark_no doubt ∷ []) ≡ mark_no doubt
unfolding mark_at
mark_doubt zero = refl
mark_doubt (suc zero) = refl
mark_doubt (suc (suc zero)) = refl
mark_doubt (suc (suc (suc k))) = refl

pub marked_past : (procedure mark : ℕ) (marks : List ℕ) → length marks ≤ procedure → marked procedure mark marks ≡ marks
unfolding marked
marked_past procedure mark marks h = set_past marks procedure mark h

-- by its own rules an end has used no identifier past the last
pub rules_used : (e : End) → all (end_rules e) ≡ true → e.used ≤ used_most
rules_used e h = leb-true e.used used_most (pick_then (leb e.used used_most) _ h).0

module _ (most : ℕ) (p : Profile) (e : End) where
  -- an end that breaks no rule has used no identifier past the last
  pub used_most_lem : end_good most p e ≡ true → e.used ≤ used_most
  unfolding end_good
  used_most_lem good = rules_used e (pick_then (all (end_rules e)) _ good).0

  pub picture_good : end_good most p e ≡ true → run_good most p e.picture ≡ true
  unfolding end_good
  picture_good good = (pick_then (run_good most p e.picture) true (pick_then (all (end_rules e)) _ good).1).0

  -- where they hold the picture decides
  pub rules_pass : all (end_rules e) ≡ true → end_good most p e ≡ run_good most p e.picture
  unfolding end_good
  rules_pass h = rw h (pick_last (run_good most p e.picture))
