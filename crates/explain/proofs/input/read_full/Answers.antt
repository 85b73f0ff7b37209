-- Each read puts its octets after those that stand already, and both together are what the reader gave.
use Rattle.std.proofs.Common.{rules, ◌≡◌, ◌+◌, ◌≤◌, ◌++◌, ℕ, List, length, take, sym, ap, subst, ◌∙◌}
use Rattle.std.proofs.Math.Seq.{take-append-add}
use Rattle.std.proofs.lemmas.List.{length-take-le, take-append-le}
use Rattle.std.proofs.KnownBytes.{Consumes-trans}
use Rattle.std.specs.Io.KnownBytes.{Consumes}
use borrow.Rule.Slice.PartMut.{put_mid, post_of}
use Rattle.explain.proofs.input.read_full.Goals as goal

-- the n octets that stand, and the first of those that a read puts after them, stand together at the start
take_more : (n room more : ℕ) (xs ys : List ℕ) → n ≤ length xs → more ≤ length ys
    → take n xs ++ take more ys ≡ take (n + more) (put_mid n room xs ys)
take_more n room more xs ys within fits =
    let after = post_of n room xs in
    ap (λ l. take n xs ++ l) (sym (take-append-le more ys after fits))
    ∙ sym (take-append-add (take n xs) (ys ++ after) more)
    ∙ ap (λ k. take (k + more) (put_mid n room xs ys)) (length-take-le n xs within)

pub loop-n-preserved : goal.loop-n-preserved
loop-n-preserved g c =
    let fits = c.in_ok-more.ensures.bound.0 in
    let before = c.loop-n.invariant in
    record {
      within = search rules;
      octets = subst (Consumes _ _) (take_more _ _ _ _ _ before.within fits) (Consumes-trans _ _ _ _ _ before.octets c.in_ok-more.ensures.bytes.0);
    }
