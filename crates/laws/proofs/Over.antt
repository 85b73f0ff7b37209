-- What was written over a list, and then more after it: the one composition law of all writers is `then`.
-- Assumes nothing.
use Prim.Native.Nat.{ℕ, suc, ◌+◌, ◌≤◌, ◌<◌}
use mathlib.Core.Path.{◌≡◌, refl, sym, ap, ◌∙◌}
use mathlib.Core.List.{List, [], ◌∷◌, ◌++◌}
use mathlib.Core.Bool.{true, false}
use native.Mathlib.Nat.{add-suc, suc-add, add-zero}
use native.Mathlib.Numerals.{add-one}
use native.Mathlib.Omega.{arith}
use lib.ListN.{length, take, drop, get_or, set, length-append}
use lib.Seq.{sets-eq, length-sets, set_comm, take-suc, take-append_seam, length-take-le}
use borrow.Author.Tests.{le-leb, lt-leb, leb-true}
use Rattle.laws.specs.Over.{over, room, Wrote, Puts}
use Rattle.laws.proofs.Picks.{both}

-- one list and then another, at the next place
pub over_over :
    (xs : List ℕ) (at : ℕ) (ws vs : List ℕ) →
    over (over xs at ws) (at + length ws) vs ≡ over xs at (ws ++ vs)
unfolding over
over_over xs at [] vs = rw add-zero
over_over xs at (w ∷ ws) vs = rw (add-suc, ← suc-add) (over_over (set xs at w) (suc at) ws vs)

pub over_nil : (xs : List ℕ) (at : ℕ) → over xs at [] ≡ xs
unfolding over
over_nil xs at = refl

pub over_one : (xs : List ℕ) (at w : ℕ) → over xs at (w ∷ []) ≡ set xs at w
unfolding over
over_one xs at w = refl

pub over_cons :
    (xs : List ℕ) (at w : ℕ) (ws : List ℕ) → over xs at (w ∷ ws) ≡ over (set xs at w) (at + 1) ws
unfolding over
over_cons xs at w ws = rw add-one refl

pub length_over : (xs : List ℕ) (at : ℕ) (ws : List ℕ) → length (over xs at ws) ≡ length xs
unfolding over
length_over = length-sets

-- what stands before and after is as it was
pub over_eq :
    (xs : List ℕ) (at : ℕ) (ws : List ℕ) → at + length ws ≤ length xs →
    over xs at ws ≡ take at xs ++ ws ++ drop (at + length ws) xs
unfolding over
over_eq xs at ws h = sets-eq ws xs at h

-- what was written from the start of a list on are its first octets
pub take_over : (xs ws : List ℕ) → length ws ≤ length xs → take (length ws) (over xs 0 ws) ≡ ws
take_over xs ws h =
    rw (over_eq xs 0 ws (omega arith)) (take-append_seam ws (drop (0 + length ws) xs))

-- an octet behind the octets may be written first
pub over_set :
    (xs : List ℕ) (at : ℕ) (ws : List ℕ) (j w : ℕ) → at + length ws ≤ j →
    set (over xs at ws) j w ≡ over (set xs j w) at ws
unfolding over
over_set xs at [] j w h = refl
over_set xs at (v ∷ ws) j w h =
    over_set (set xs at v) (suc at) ws j w (omega arith)
    ∙ ap (λ (l : List ℕ). over l (suc at) ws) (set_comm xs at j v w (λ e. omega arith))

-- two writers, one after the other
pub then :
    {xs : List ℕ} {at : ℕ} {ws : List ℕ} {p : ℕ} {ys : List ℕ} {vs : List ℕ} {q : ℕ} {zs : List ℕ} →
    Wrote xs at ws p ys →
    Wrote ys p vs q zs →
    Wrote xs at (ws ++ vs) q zs
then {xs} {at} {ws} {p} {ys} {vs} {q} {zs} a b = record {
  moved = rw length-append (omega (arith, a.moved, b.moved));
  holds = b.holds ∙ rw (a.holds, a.moved) (over_over xs at ws vs);
}

-- one more octet of a copy
pub over_more :
    (xs : List ℕ) (at : ℕ) (src : List ℕ) (i : ℕ) → i < length src →
    set (over xs at (take i src)) (at + i) (get_or src i 0) ≡ over xs at (take (suc i) src)
over_more xs at src i h =
    let long : length (take i src) ≡ i = length-take-le i src (omega arith) in
    sym (over_one (over xs at (take i src)) (at + i) (get_or src i 0))
    ∙ ap (λ (k : ℕ). over (over xs at (take i src)) (at + k) (get_or src i 0 ∷ [])) (sym long)
    ∙ over_over xs at (take i src) (get_or src i 0 ∷ [])
    ∙ rw (take-suc src i 0 h)

-- where the test finds room, there is room
pub room_fits : (xs : List ℕ) (at : ℕ) (ws : List ℕ) → room xs at ws ≡ true → at + length ws ≤ length xs
unfolding room
room_fits xs at ws h = leb-true (at + length ws) (length xs) h

-- where there is room, what is offered to all is what was asked for
pub wrote :
    {xs : List ℕ} {at : ℕ} {ws : List ℕ} {next : ℕ} {ys : List ℕ} →
    at + length ws ≤ length xs →
    Puts xs at ws next ys →
    Wrote xs at ws next ys
unfolding room
wrote {xs} {at} {ws} h p =
    let fits : room xs at ws ≡ true = le-leb (at + length ws) (length xs) h in
    record { moved = rw fits at p.moved; holds = rw fits at p.holds }

-- what is written over keeps its length
pub wrote_length :
    {xs : List ℕ} {at : ℕ} {ws : List ℕ} {n : ℕ} {ys : List ℕ} → Wrote xs at ws n ys → length ys ≡ length xs
wrote_length {xs} {at} {ws} w = ap length w.holds ∙ length_over xs at ws

-- two octets that are stored one by one
pub wrote_two : (xs : List ℕ) (at a b : ℕ) → Wrote xs at (a ∷ b ∷ []) (at + 2) (set (set xs at a) (at + 1) b)
wrote_two xs at a b = record {
  moved = refl;
  holds = sym (over_cons xs at a (b ∷ []) ∙ over_one (set xs at a) (at + 1) b);
}

-- nothing is written
pub wrote_none : {xs : List ℕ} {at : ℕ} → Wrote xs at [] at xs
wrote_none {xs} {at} = record { moved = omega arith; holds = sym (over_nil xs at) }

-- room for two is room for the second after the first
pub room_then :
    {xs : List ℕ} {at : ℕ} {ws : List ℕ} {p : ℕ} {ys : List ℕ} (vs : List ℕ) →
    at + length (ws ++ vs) ≤ length xs →
    Wrote xs at ws p ys →
    p + length vs ≤ length ys
room_then {xs} {at} {ws} vs h w =
    omega (arith, w.moved, length-append ws vs, ap length w.holds, length_over xs at ws)

pub room_after :
    {xs : List ℕ} {at : ℕ} {ws : List ℕ} {p : ℕ} {ys : List ℕ} (vs : List ℕ) →
    at + length (ws ++ vs) ≤ length xs →
    Puts xs at ws p ys →
    p + length vs ≤ length ys
room_after {xs} {at} {ws} vs h a = room_then vs h (wrote (omega (arith, length-append ws vs)) a)

-- whether there is room, as a test
pub room_true : (xs : List ℕ) (at : ℕ) (ws : List ℕ) → at + length ws ≤ length xs → room xs at ws ≡ true
unfolding room
room_true xs at ws h = le-leb (at + length ws) (length xs) h

pub room_false : (xs : List ℕ) (at : ℕ) (ws : List ℕ) → length xs < at + length ws → room xs at ws ≡ false
unfolding room
room_false xs at ws h = lt-leb (at + length ws) (length xs) h

-- a writer that is offered to all, and then others, where there is room for all of them
pub puts_then :
    {xs : List ℕ} {at : ℕ} {ws : List ℕ} {p : ℕ} {ys : List ℕ} {vs : List ℕ} {q : ℕ} {zs : List ℕ} →
    at + length (ws ++ vs) ≤ length xs →
    Puts xs at ws p ys →
    (p + length vs ≤ length ys → Wrote ys p vs q zs) →
    Wrote xs at (ws ++ vs) q zs
puts_then {xs} {at} {ws} {p} {ys} {vs} h a k =
    let first : Wrote xs at ws p ys = wrote (omega (arith, length-append ws vs)) a in
    then first (k (room_then vs h first))

-- the two ways out of a writer that is offered to all
pub puts_all :
    {xs : List ℕ} {at : ℕ} {ws : List ℕ} {next : ℕ} {ys : List ℕ} →
    at + length ws ≤ length xs →
    Wrote xs at ws next ys →
    Puts xs at ws next ys
unfolding room
puts_all {xs} {at} {ws} h w =
    let fits : room xs at ws ≡ true = le-leb (at + length ws) (length xs) h in
    record { moved = rw fits w.moved; holds = rw fits w.holds }

pub puts_none :
    {xs : List ℕ} {at : ℕ} {ws : List ℕ} → length xs < at + length ws → Puts xs at ws at xs
unfolding room
puts_none {xs} {at} {ws} h =
    let short : room xs at ws ≡ false = lt-leb (at + length ws) (length xs) h in
    record { moved = rw short refl; holds = rw short refl }

-- what a writer promises admits one place and one output
pub only_puts :
    {xs : List ℕ} {at : ℕ} {ws : List ℕ} {p q : ℕ} {ys zs : List ℕ} →
    Puts xs at ws p ys →
    Puts xs at ws q zs →
    (p ≡ q) × (ys ≡ zs)
only_puts a b = (both a.moved b.moved, both a.holds b.holds)
