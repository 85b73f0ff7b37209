use Rattle.profile.proofs.Records.{digits_copied}
use Rattle.profile.proofs.access.digits_from.Goals as goal

pub returns : goal.returns
returns c =
    digits_copied c.args.s.now
    c.args.at c.requires
    c.put_all.ensures
