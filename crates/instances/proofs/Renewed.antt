-- Where as many instances are selected as places, an activation puts the address where they stand. Assumes nothing.
use Prim.Native.Nat.{ℕ, ◌<◌, ◌≤◌}
use mathlib.Core.Path.{◌≡◌, refl, sym, ap, ◌∙◌}
use mathlib.Core.Bool.{true, false, false≢true}
use mathlib.Core.List.{List, [], ◌∷◌, map}
use native.Mathlib.Omega.{arith}
use lib.ListN.{length, get_or, length-take, get_or-eq_default}
use lib.Dec.{ltb, eqb}
use borrow.Author.Tests.{lt-ltb, ltb-true, ltb-false, eqb-true}
use Rattle.laws.proofs.Picks.{pick_then, by_bool}
use Rattle.laws.proofs.Thoses.{those_take, those_skip, those_none}
use Rattle.laws.proofs.Eaches.{Each, each_so, each_those, Up, up_low, up_those, up_map}
use Rattle.numbers.specs.Number.{number_good, digits_of}
use Rattle.numbers.specs.declared.address.Address.{Address}
use Rattle.numbers.proofs.Goods.{good_number, digits_fair}
use Rattle.profile.specs.Profile.{subscribed_services, served_numbers, no_number}
use Rattle.profile.specs.declared.profile.Profile.{Profile}
use Rattle.profile.proofs.Profiles.{GoodProfile}
use Rattle.instances.specs.Instance.{instance_of, key, key_of, chosen, spared, instance_good}
use Rattle.instances.specs.Places.{places_from, picks, places_of}
use Rattle.instances.specs.Run.{listed, deactivated, instance_at, merged, activated, renewed, renews}
use Rattle.instances.specs.declared.instance.Instance.{Instance}
use Rattle.instances.specs.declared.instance.Selection.{Selection}
use Rattle.instances.specs.declared.places.Place.{Place}
use Rattle.instances.proofs.Choices.{chosen_is, concerns_is, kept_test, gone_test}
use Rattle.instances.proofs.Finds.{is_place, stands, stands_of}
use Rattle.instances.proofs.Fits.{fits_of}
use Rattle.instances.proofs.Goods.{place_key, up_places, GoodList}
use Rattle.instances.proofs.Merged.{nil_merged, merge_rest, merge_lower, merge_last, merge_higher}

-- an instance with the address in place of its own
abbrev again : Address → Instance → Instance
again address x = instance_of x.procedure x.number x.service address

-- ---- instances of one procedure whose places stand among others

module _ (q : ℕ) where
  -- a place has the key of its number and service
  place_key_lem : (n s : ℕ) (w : Place) → is_place n s w ≡ true → place_key q w ≡ key q n s
  place_key_lem n s w h =
      let both = pick_then (eqb w.number n) (eqb w.service s) h in
      rw (eqb-true w.number n both.0, eqb-true w.service s both.1)

  -- what stands among places that ascend has a key above what comes before them
  stands_above : (n s below : ℕ) (ws : List Place) → Up (place_key q) below ws → stands n s ws ≡ true → below < key q n s
  stands_above n s below [] up h = absurd (false≢true h)
  stands_above n s below (w ∷ ws) up h =
      by_bool (below < key q n s) (is_place n s w)
      (λ e. omega (arith, up.0, place_key_lem n s w e))
      (λ e. omega (arith, up.0, stands_above n s (place_key q w) ws up.1 (rw e at h)))

  -- an instance of the procedure whose place stands there
  abbrev Inside : List Place → Instance → Type 0
  Inside ws x = (x.procedure ≡ q) × (stands x.number x.service ws ≡ true)

  -- its key
  own_key : (x : Instance) → x.procedure ≡ q → key_of x ≡ key q x.number x.service
  own_key x h = rw h

  -- those with keys above that of the first place stand among the others
  inside_rest :
      (below : ℕ) (w : Place) (ws : List Place) (xs : List Instance) → place_key q w ≤ below → Up key_of below xs →
      Each (Inside (w ∷ ws)) xs → Each (Inside ws) xs
  inside_rest below w ws [] low up h = tt
  inside_rest below w ws (x ∷ xs) low up h =
      let own = own_key x h.0.0 in
      let here : stands x.number x.service ws ≡ true =
      by_bool (stands x.number x.service ws ≡ true) (is_place x.number x.service w)
      (λ e. absurd (omega (arith, low, up.0, own, place_key_lem x.number x.service w e)))
      (λ e. (rw e at h).0.1) in
      ((h.0.0, here), inside_rest (key_of x) w ws xs (omega (arith, low, up.0)) up.1 h.1)

  module _ (address : Address) where
    again_here : (x : Instance) (w : Place) → x.procedure ≡ q → is_place x.number x.service w ≡ true → again address x ≡ instance_at q address w
    again_here x w own h =
        let both = pick_then (eqb w.number x.number) (eqb w.service x.service) h in
        rw (own, eqb-true w.number x.number both.0, eqb-true w.service x.service both.1)

    -- no more of them than places; where as many, they are the instances of these places
    again_all :
        (below low : ℕ) (ws : List Place) (xs : List Instance) → Up (place_key q) low ws → Up key_of below xs → Each (Inside ws) xs →
        (length xs ≤ length ws) × (length xs ≡ length ws → map (again address) xs ≡ map (instance_at q address) ws)
    again_all below low [] [] upw upx h = (omega arith, λ e. refl)
    again_all below low [] (x ∷ xs) upw upx h = absurd (false≢true h.0.1)
    again_all below low (w ∷ ws) [] upw upx h = (omega arith, λ e. absurd (omega (arith, e)))
    again_all below low (w ∷ ws) (x ∷ xs) upw upx h =
        let own = own_key x h.0.0 in
        by_bool _ (is_place x.number x.service w)
        (λ (e : is_place x.number x.service w ≡ true).
        let same = place_key_lem x.number x.service w e in
        let rest = inside_rest (key_of x) w ws xs (omega (arith, own, same)) upx.1 h.1 in
        let so = again_all (key_of x) (place_key q w) ws xs upw.1 upx.1 rest in (
          omega (arith, so.0),
          λ k. rw (again_here x w h.0.0 e) (ap (λ (l : List Instance). instance_at q address w ∷ l) (so.1 (omega (arith, k)))),
        ))
        (λ (e : is_place x.number x.service w ≡ false).
        let there : stands x.number x.service ws ≡ true = (rw e at h).0.1 in
        let above = stands_above x.number x.service (place_key q w) ws upw.1 there in
        let up : Up key_of (place_key q w) (x ∷ xs) = (omega (arith, own, above), upx.1) in
        let rest = inside_rest (place_key q w) w ws (x ∷ xs) (omega arith) up h in
        let so = again_all (place_key q w) (place_key q w) ws (x ∷ xs) upw.1 up rest in
        (omega (arith, so.0), λ k. absurd (omega (arith, so.0, k))))

-- ---- the chosen ones of good instances

module _ (p : Profile) (profile : GoodProfile p) where
  -- a good profile has as many numbers as it counts
  number_there : (n : ℕ) → n < p.numbercount → n < length (served_numbers p)
  number_there n h =
      let long : n < length p.numbers =
      by_bool (n < length p.numbers) (ltb n (length p.numbers))
      (λ e. ltb-true n (length p.numbers) e)
      (λ e.
      let past : get_or p.numbers n no_number ≡ no_number = get_or-eq_default p.numbers no_number
      (ltb-false n (length p.numbers) e) in
      let good : number_good no_number ≡ true = ap number_good (sym past) ∙ profile.numbers n h in
      absurd (omega (arith, (digits_fair (digits_of no_number) (good_number no_number good).digits).0))) in
      omega (arith, length-take p.numbercount p.numbers, h, long)

  module _ (sel : Selection) (address : Address) (most : ℕ) (l : List Instance) (so : GoodList p most l) where
    chosen_inside : Each (Inside sel.procedure (places_of p sel)) (listed sel l)
    chosen_inside =
        each_so (λ x. (instance_good p x ≡ true) × (chosen sel x ≡ true)) (Inside sel.procedure (places_of p sel))
        (λ x h.
        let is = chosen_is sel x h.1 in
        let fits = fits_of p.subscribed p.numbercount (subscribed_services p) x h.0 in
        let there = lt-ltb x.number (length (served_numbers p)) (number_there x.number fits.number) in (
          concerns_is sel x.procedure is.0,
          stands_of x.procedure x.number x.service sel address p is.1 ∙ rw (there, fits.service),
        ))
        (listed sel l) (each_those (λ x. instance_good p x ≡ true) (chosen sel) l so.each)

    places_up : Up (place_key sel.procedure) 0 (places_of p sel)
    unfolding places_of
    places_up =
        let every = places_from (subscribed_services p) (length (served_numbers p)) 0 in
        up_those (place_key sel.procedure) (picks sel) 0 every
        (up_low (place_key sel.procedure) 0 (key sel.procedure 0 0) every (omega arith)
        (up_places sel.procedure (subscribed_services p) (length (served_numbers p)) 0 profile.rises))

    -- where they are as many as the places, with the address they are the instances of the places
    chosen_again :
        renews p sel l ≡ true →
        map (again address) (listed sel l) ≡ map (instance_at sel.procedure address) (places_of p sel)
    chosen_again h =
        (again_all sel.procedure address 0 0 (places_of p sel) (listed sel l) places_up
        (up_those key_of (chosen sel) 0 l so.ascends) chosen_inside).1
        (eqb-true (length (listed sel l)) (length (places_of p sel)) h)

-- ---- with the others, they are in order

-- one of the first list comes first where its key is below those of the second
first_merged : (x : Instance) (xs ys : List Instance) → Up key_of (key_of x) ys → merged (x ∷ xs) ys ≡ x ∷ merged xs ys
first_merged x xs [] up = merge_last (x ∷ xs) [] x xs refl refl
first_merged x xs (y ∷ ys) up = merge_higher (x ∷ xs) (y ∷ ys) x xs refl y ys refl (omega (arith, up.0))

-- and the other way round
second_merged : (y : Instance) (xs ys : List Instance) → Up key_of (key_of y) xs → merged xs (y ∷ ys) ≡ y ∷ merged xs ys
second_merged y [] ys up = merge_rest [] (y ∷ ys) y ys refl refl
second_merged y (x ∷ xs) ys up = merge_lower (x ∷ xs) (y ∷ ys) y ys refl x xs refl up.0

module _ (sel : Selection) (address : Address) where
  -- the chosen ones with the address and the spared ones are the list with the address where it is chosen
  renewed_merged :
      (below : ℕ) (l : List Instance) → Up key_of below l →
      merged (map (again address) (listed sel l)) (deactivated sel l) ≡ map (renewed sel address) l
  renewed_merged below [] up = rw (those_none (chosen sel) [] refl, those_none (spared sel) [] refl, nil_merged [])
  renewed_merged below (x ∷ l) up =
      let less = renewed_merged (key_of x) l up.1 in
      let kept = deactivated sel l in
      let taken = map (again address) (listed sel l) in
      by_bool _ (chosen sel x)
      (λ (h : chosen sel x ≡ true).
      rw (those_take (chosen sel) (x ∷ l) l x refl h, those_skip (spared sel) (x ∷ l) l x refl (gone_test _ h), h)
      (first_merged (again address x) taken kept (up_those key_of (spared sel) (key_of x) l up.1)
      ∙ ap (λ (m : List Instance). again address x ∷ m) less))
      (λ (h : chosen sel x ≡ false).
      rw (those_skip (chosen sel) (x ∷ l) l x refl h, those_take (spared sel) (x ∷ l) l x refl (kept_test _ h), h)
      (second_merged x taken kept
      (up_map key_of (again address) (key_of x) (listed sel l) (up_those key_of (chosen sel) (key_of x) l up.1))
      ∙ ap (λ (m : List Instance). x ∷ m) less))

-- where as many instances are selected as places, an activation of instances that break no rule only renews them
pub activated_renewed :
    (p : Profile) → GoodProfile p → (sel : Selection) (address : Address) (most : ℕ) (l : List Instance) →
    GoodList p most l → renews p sel l ≡ true →
    activated p sel address l ≡ map (renewed sel address) l
activated_renewed p profile sel address most l so h =
    ap (λ (m : List Instance). merged m (deactivated sel l)) (sym (chosen_again p profile sel address most l so h))
    ∙ renewed_merged sel address 0 l so.ascends
