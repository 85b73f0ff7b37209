use Rattle.profile.proofs.Made.{made_each}
use Rattle.profile.proofs.Records.{profile_made}
use Rattle.profile.specs.Access.{number_from, prefix_from, prefixes_from, numbers_at, number_size, prefixes_at, prefix_size}
use Rattle.profile.specs.Profile.{numbers_most, prefixes_most}
use Rattle.std.proofs.Common.{rules, ◌+◌, ◌*◌}
use Rattle.profile.proofs.access.profile_from.Goals as goal

pub returns : goal.returns
unfolding prefixes_from
returns c =
    let s = c.args.s.now in
    profile_made s _ _ c.requires
    (made_each _ _ (λ k. number_from s (numbers_at + number_size * k)) (λ k y q e. search rules) numbers_most _ c.from_fn-numbers.ensures.items)
    (made_each _ _ (λ k. prefix_from s (prefixes_at + prefix_size * k)) (λ k y q e. search rules) prefixes_most _ c.from_fn-prefixes.ensures.items)
