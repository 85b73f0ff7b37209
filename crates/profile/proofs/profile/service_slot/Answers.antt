use Rattle.profile.proofs.Places.{slot_found}
use Rattle.profile.specs.Profile.{services_most}
use Rattle.std.proofs.Common.{rules, tests, eqb, arith, length, take, ◌≡◌, ◌∙◌}
use Rattle.std.proofs.lemmas.Iterator.{YieldsList-from_slice}
use Rattle.std.proofs.lemmas.Iterator.Search.{position_from_yields_List}
use Prim.Native.Nat.{ℕ, min}
use Rattle.profile.proofs.profile.service_slot.Goals as goal

pub returns : goal.returns
returns c =
    let p = c.args.p in
    let long : length p.services ≡ services_most = search rules in
    let count : c.min-count.result ≡ min p.servicecount services_most = omega arith in
    let found = position_from_yields_List (λ (x : ℕ). eqb x c.args.service) _ _ c.position.result c.position.ensures.ran (YieldsList-from_slice (take c.min-count.result p.services) cc) (λ x b q k. search (rules, tests)) in
    c.unwrap_or.ensures ∙ rw count (slot_found c.args.service p.servicecount services_most p.services c.position.result long (rw count at found))
