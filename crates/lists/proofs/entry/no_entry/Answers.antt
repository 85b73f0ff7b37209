use Rattle.lists.proofs.entry.no_entry.Goals as goal

pub returns : goal.returns
returns c = rw (c.blank_number-served.ensures, c.blank_address-address.ensures)
