use Rattle.lists.proofs.entries.no_entries.Goals as goal

pub returns : goal.returns
returns c = rw c.no_entry-none.ensures
