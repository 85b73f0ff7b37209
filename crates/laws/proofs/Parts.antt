-- A part of a slice, and the length of an array of structs. Assumes nothing.
use Prim.Native.Nat.{ℕ, zero, suc, ◌-◌}
use mathlib.Core.Path.{◌≡◌, sym, ◌∙◌}
use mathlib.Core.List.{List, [], ◌∷◌, map}
use native.Mathlib.Nat.{sub-zero, zero-sub, suc-sub-suc}
use lib.ListN.{length, take, drop, length-map}
use lib.Seq.{take-nil, slice}

-- what the code's `&s[from..to]` holds is the `slice` of the definitions
pub part_slice : (from to : ℕ) (s : List ℕ) → take (to - from) (drop from s) ≡ slice from to s
part_slice zero to s = rw sub-zero
part_slice (suc from) zero s = rw zero-sub
part_slice (suc from) (suc to) [] = rw take-nil
part_slice (suc from) (suc to) (x ∷ xs) = rw suc-sub-suc (part_slice from to xs)

-- the length of a field that is an array of structs, which owning the struct tells of the list as the machine has it
pub unmapped : {A B : Type 0} (f : A → B) (l : List A) (n : ℕ) → length (map f l) ≡ n → length l ≡ n
unmapped f l n e = sym (length-map l f) ∙ e
