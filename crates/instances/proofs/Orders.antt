-- Instances that ascend and are good, met one by one. Assumes nothing.
use Prim.Native.Nat.{ℕ, ◌<◌, ◌≤◌}
use mathlib.Core.Path.{◌≡◌, refl, ◌∙◌}
use mathlib.Core.Bool.{Bool, true, false}
use mathlib.Core.List.{List, [], ◌∷◌}
use lib.Dec.{leb}
use borrow.Author.Tests.{lt-ltb, le-ltb, le-leb}
use Rattle.laws.specs.Pick.{pick}
use Rattle.laws.specs.Tests.{all}
use Rattle.laws.proofs.Picks.{pick_ind, pick_last}
use Rattle.profile.specs.declared.profile.Profile.{Profile}
use Rattle.instances.specs.Instance.{key_of, instance_good}
use Rattle.instances.specs.Places.{run_most}
use Rattle.instances.specs.Run.{instances_of, ascending, each_good, few_of_each, run_good}
use Rattle.instances.specs.declared.instance.Instance.{Instance}
use Rattle.instances.specs.declared.run.Run.{Run}

-- ---- they ascend

module _ (below : ℕ) (l m : List Instance) (x : Instance) (e : l ≡ x ∷ m) where
  pub ascends_on : below < key_of x → ascending below l ≡ ascending (key_of x) m
  unfolding ascending
  ascends_on h = rw (e, lt-ltb below (key_of x) h, pick_last (ascending (key_of x) m))

  pub ascends_low : key_of x ≤ below → ascending below l ≡ false
  unfolding ascending
  ascends_low h = rw (e, le-ltb below (key_of x) h)

pub ascends_none : (below : ℕ) (l : List Instance) → l ≡ [] → ascending below l ≡ true
unfolding ascending
ascends_none below l e = rw e

-- ---- and each is good

abbrev pub sound : (Instance → Bool) → ℕ → List Instance → Bool
sound good below is = all (ascending below is ∷ each_good good is ∷ [])

module _ (good : Instance → Bool) (l m : List Instance) (x : Instance) (e : l ≡ x ∷ m) where
  good_on : good x ≡ true → each_good good l ≡ each_good good m
  unfolding each_good
  good_on g = rw (e, g, pick_last (each_good good m))

  good_bad : good x ≡ false → each_good good l ≡ false
  unfolding each_good
  good_bad g = rw (e, g)

  pub sound_on : (below : ℕ) → below < key_of x → good x ≡ true → sound good below l ≡ sound good (key_of x) m
  sound_on below h g = rw (ascends_on below l m x e h, good_on g)

  pub sound_low : (below : ℕ) → key_of x ≤ below → sound good below l ≡ false
  sound_low below h = rw (ascends_low below l m x e h)

  pub sound_bad : (below : ℕ) → good x ≡ false → sound good below l ≡ false
  sound_bad below g = rw (good_bad g) (pick_ind (λ t. t ≡ false) (ascending below l) (λ _. refl) (λ _. refl))

pub sound_none : (good : Instance → Bool) (below : ℕ) (l : List Instance) → l ≡ [] → sound good below l ≡ true
unfolding ascending each_good
sound_none good below l e = rw e

-- ---- the whole run

all_parts : (a b c : Bool) → all (a ∷ b ∷ c ∷ []) ≡ pick (all (a ∷ b ∷ [])) c false
all_parts true true c = pick_last c
all_parts true false c = refl
all_parts false b c = refl

module _ (p : Profile) (run : Run) (most : ℕ) (few : run.count ≤ run_most) where
  run_parts : run_good most p run ≡ pick (sound (instance_good p) 0 (instances_of run)) (few_of_each most (instances_of run)) false
  unfolding run_good
  run_parts =
      let l = instances_of run in
      rw (le-leb run.count run_most few)
      (pick_last _ ∙ all_parts (ascending 0 l) (each_good (instance_good p) l) (few_of_each most l))

  pub not_good : sound (instance_good p) 0 (instances_of run) ≡ false → run_good most p run ≡ false
  not_good h = run_parts ∙ rw h

  -- there are too many of a procedure
  pub not_few : few_of_each most (instances_of run) ≡ false → run_good most p run ≡ false
  not_few h = run_parts ∙ rw h (pick_ind (λ t. t ≡ false) (sound (instance_good p) 0 (instances_of run)) (λ _. refl) (λ _. refl))

  pub is_good : sound (instance_good p) 0 (instances_of run) ≡ true → run_good most p run ≡ few_of_each most (instances_of run)
  is_good h = run_parts ∙ rw h

pub too_long : (p : Profile) (run : Run) (most : ℕ) → leb run.count run_most ≡ false → run_good most p run ≡ false
unfolding run_good
too_long p run most h = rw h
