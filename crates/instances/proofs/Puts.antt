-- An activation, met one instance or place at a time. Assumes nothing.
use Prim.Native.Nat.{◌<◌, ◌≤◌}
use mathlib.Core.Path.{◌≡◌, ap, ◌∙◌}
use mathlib.Core.Bool.{true, false}
use mathlib.Core.List.{List, [], ◌∷◌, map}
use mathlib.Core.Logic.{◌⊎◌, ⊎_elim}
use Prim.Native.Nat.{ℕ}
use lib.ListN.{take}
use Rattle.laws.proofs.Thoses.{those_take, those_skip, those_none}
use Rattle.laws.proofs.Filled.{Full}
use Rattle.numbers.specs.declared.address.Address.{Address}
use Rattle.profile.specs.declared.profile.Profile.{Profile}
use Rattle.instances.specs.Instance.{blank_instance, key_of, chosen, spared}
use Rattle.instances.specs.Places.{run_most, places_of}
use Rattle.instances.specs.Run.{instances_of, packed, deactivated, instance_at, merged, activated_at, activated}
use Rattle.instances.specs.declared.instance.Instance.{Instance}
use Rattle.instances.specs.declared.instance.Selection.{Selection}
use Rattle.instances.specs.declared.places.Place.{Place}
use Rattle.instances.specs.declared.run.Run.{Run}
use Rattle.instances.proofs.Runs.{packed_done, packed_full}
use Rattle.instances.proofs.Choices.{kept_test, gone_test}
use Rattle.instances.proofs.Merged.{merged_nil, merge_rest, merge_lower, merge_last, merge_higher}

module _ (sel : Selection) (address : Address) (ws : List Place) (is : List Instance) where
  abbrev here : Place → Instance
  here = instance_at sel.procedure address

  module _ (x : Instance) (js : List Instance) (e : is ≡ x ∷ js) where
    -- an older one is replaced
    pub put_skip : chosen sel x ≡ true → activated_at sel address ws is ≡ activated_at sel address ws js
    put_skip h = ap (merged (map here ws)) (those_skip (spared sel) is js x e (gone_test _ h))

    module _ (stays : chosen sel x ≡ false) where
      takes : deactivated sel is ≡ x ∷ deactivated sel js
      takes = those_take (spared sel) is js x e (kept_test _ stays)

      pub put_rest : ws ≡ [] → activated_at sel address ws is ≡ x ∷ activated_at sel address ws js
      put_rest none = merge_rest (map here ws) (deactivated sel is) x (deactivated sel js) takes (ap (map here) none)

      module _ (w : Place) (vs : List Place) (more : ws ≡ w ∷ vs) where
        pub put_kept : key_of x < key_of (here w) → activated_at sel address ws is ≡ x ∷ activated_at sel address ws js
        put_kept h =
            merge_lower (map here ws) (deactivated sel is) x (deactivated sel js) takes (here w) (map here vs) (ap (map here) more) h

        pub put_made : key_of (here w) ≤ key_of x → activated_at sel address ws is ≡ here w ∷ activated_at sel address vs is
        put_made h =
            merge_higher (map here ws) (deactivated sel is) (here w) (map here vs) (ap (map here) more) x (deactivated sel js) takes h

  module _ (none : is ≡ []) where
    gone : deactivated sel is ≡ []
    gone = those_none (spared sel) is none

    pub put_last :
        (w : Place) (vs : List Place) → ws ≡ w ∷ vs →
        activated_at sel address ws is ≡ here w ∷ activated_at sel address vs is
    put_last w vs more = merge_last (map here ws) (deactivated sel is) (here w) (map here vs) (ap (map here) more) gone

    pub put_none : ws ≡ [] → activated_at sel address ws is ≡ []
    put_none empty = rw (gone, empty) (merged_nil [])

-- either all has found room, or there is none left
pub put_answer :
    (p : Profile) (sel : Selection) (address : Address) (run : Run) (ws : List Place) (is : List Instance) (k : ℕ)
    (array : List Instance) →
    ws ≡ places_of p sel → is ≡ instances_of run →
    (Full run_most blank_instance (activated_at sel address ws is) k array) ⊎
    (Full run_most blank_instance (take run_most (activated_at sel address ws is)) k array) →
    ◌≡◌ {A = Run} record { count = k; run = array } (packed (activated p sel address (instances_of run)))
put_answer p sel address run ws is k array places held so =
    let whole = activated_at sel address ws is in
    let same : whole ≡ activated p sel address (instances_of run) = rw (places, held) in
    ⊎_elim (λ full. packed_done whole k array full ∙ ap packed same) (λ full. packed_full whole k array full ∙ ap packed same) so
