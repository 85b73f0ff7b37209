use Rattle.laws.proofs.Parts.{unmapped}
use Rattle.laws.proofs.Walks.{every_none, every_more, every_fails}
use Rattle.numbers.specs.declared.number.Number.{Number}
use Rattle.profile.proofs.Places.{any_before, fits_bad, fits_own}
use Rattle.profile.proofs.Profiles.{number_fits, numbers_fit, numbers_fair}
use Rattle.profile.specs.Profile.{numbers_most, no_number, same}
use Rattle.std.proofs.Common.{rules, arith, length, length-take, take, get_or, ◌<◌, ◌≡◌, ◌∙◌, refl, sym, ap, not}
use Rattle.std.proofs.lemmas.Iterator.{YieldsList-from_range}
use Rattle.std.proofs.lemmas.Iterator.Search.{any_from_yields_List}
use Prim.Native.Nat.{ℕ}
use Rattle.profile.proofs.profile.numbers_good.Goals as goal
use Rattle.profile.proofs.profile.numbers_good.Goals.{then-not-number_good-via-then-not-number_good, then-not-number_good-via-else-not-number_good+then-any}

pub loop-k-init : goal.loop-k-init
loop-k-init c = every_none (number_fits c.args.p c.args.p.numbercount c.args.p.numbers)

pub returns-then-not-number_good : goal.returns-then-not-number_good
returns-then-not-number_good c =
    let p = c.args.p in
    let long : length p.numbers ≡ numbers_most = search (unmapped, rules) in
    let k = c.loop-k.k in
    let m = c.from-count.result in
    let good = rw c.from-count.ensures at c.number_good.ensures in
    let lt : k < p.numbercount = omega (arith, length-take m p.numbers) in
    let fails = every_fails (number_fits p p.numbercount p.numbers) p.numbercount k lt in
    sym (numbers_fair p (omega arith) (omega arith) ∙ elim c.then-not-number_good.branch [
      | then-not-number_good-via-then-not-number_good w ↦ fails (fits_bad p p.numbercount p.numbers k lt (omega arith) (sym good ∙ w.if-not-number_good.true))
      | then-not-number_good-via-else-not-number_good+then-any w ↦
          let l = take m p.numbers in
          let n = get_or l k no_number in
          let met = any_from_yields_List (λ (j : ℕ). same p (get_or l j no_number) n) _ _ w.any.result w.any.ensures.ran (YieldsList-from_range _ _ _ refl refl) (λ x b q j. search rules) in
          let own = met ∙ any_before (λ (x : Number). same p x n) l no_number k (omega arith) (omega arith) (omega (arith, length-take m p.numbers)) in
          fails
          (fits_own p p.numbercount p.numbers k lt (omega arith) (sym good ∙ w.if-not-number_good.false)
          ∙ ap not (sym (rw c.from-count.ensures at own) ∙ w.if-any.true))
    ])

pub loop-k-preserved : goal.loop-k-preserved
loop-k-preserved c =
    let p = c.args.p in
    let long : length p.numbers ≡ numbers_most = search (unmapped, rules) in
    let k = c.loop-k.k in
    let m = c.from-count.result in
    let good = rw c.from-count.ensures at c.number_good.ensures in
    let lt : k < p.numbercount = omega (arith, length-take m p.numbers) in
    let l = take m p.numbers in
    let n = get_or l k no_number in
    let met = any_from_yields_List (λ (j : ℕ). same p (get_or l j no_number) n) _ _ c.any.result c.any.ensures.ran (YieldsList-from_range _ _ _ refl refl) (λ x b q j. search rules) in
    let own = met ∙ any_before (λ (x : Number). same p x n) l no_number k (omega arith) (omega arith) (omega (arith, length-take m p.numbers)) in
    every_more (number_fits p p.numbercount p.numbers) k c.loop-k.invariant
    (fits_own p p.numbercount p.numbers k lt (omega arith) (sym good ∙ c.if-not-number_good.false)
    ∙ ap not (sym (rw c.from-count.ensures at own) ∙ c.if-any.false))

pub returns : goal.returns
returns c =
    let p = c.args.p in
    let long : length p.numbers ≡ numbers_most = search (unmapped, rules) in
    let e : c.loop-k.k ≡ p.numbercount = omega (arith, length-take c.from-count.result p.numbers) in
    sym (numbers_fair p (omega arith) (omega arith) ∙ ap (numbers_fit p) (sym e) ∙ c.loop-k.invariant)
