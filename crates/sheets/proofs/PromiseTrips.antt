-- What `write_sheet` and `read_sheet` promise together: what one wrote the other reads back, and the other way round. Assumes nothing.
use Prim.Native.Nat.{ℕ, ◌≤◌, ◌<◌}
use mathlib.Core.Path.{◌≡◌, refl, sym, ap, ◌∙◌}
use mathlib.Core.Bool.{true}
use mathlib.Core.List.{List}
use native.Mathlib.Omega.{arith}
use lib.ListN.{length, take, get_or}
use lib.Dec.{ltb}
use borrow.Author.Tests.{ltb-true, ltb-false}
use Rattle.std.specs.Prelude.{Result, Ok, Err}
use Rattle.laws.specs.Over.{over}
use Rattle.laws.proofs.Over.{take_over}
use Rattle.laws.proofs.Picks.{by_bool}
use Rattle.laws.proofs.Eaches.{Each}
use Rattle.refusals.specs.Refusal.{tells}
use Rattle.refusals.proofs.Refusals.{refuses_not}
use Rattle.refusals.proofs.Handlings.{written_same}
use Rattle.refusals.specs.declared.refusal.Refusal.{Refusal}
use Rattle.profile.specs.Access.{access_read}
use Rattle.lists.specs.Entries.{instances_most}
use Rattle.exchange.specs.Table.{table_good}
use Rattle.exchange.specs.declared.table.Table.{Table}
use Rattle.forms.specs.Form.{form1}
use Rattle.forms.specs.Size.{sheet_most}
use Rattle.forms.specs.Sheet.{sheet_octets}
use Rattle.refusals.specs.Handling.{Made, made}
use Rattle.instances.specs.Run.{instances_of}
use Rattle.sheets.specs.Sheets.{wrote_sheet, WritesSheet, read_sheet, table_read, ReadsSheet}
use Rattle.sheets.proofs.WrittenTables.{Arrays}
use Rattle.sheets.proofs.WrittenSheets.{writes_short, writes_profile, writes_table, writes_sheet, sheet_written_most}
use Rattle.sheets.proofs.ReadTables.{read_ok, accepted_table, accepted_size, read_good}
use Rattle.sheets.proofs.TableTrips.{SameInstances, ReadsAs, table_back}

-- a table that is written: there was room, and neither the profile nor the table was refused
module _ (access : List ℕ) (t : Table) (size : ℕ) (done : (wrote_sheet access t size).told ≡ tells tt) where
  written_room : sheet_most form1 ≤ size
  written_room =
      by_bool (sheet_most form1 ≤ size) (ltb size (sheet_most form1))
      (λ e. absurd (refuses_not _ tt
      (sym (ap (λ (w : Made). w.told) (writes_short access t size (ltb-true size (sheet_most form1) e))) ∙ done)))
      (λ e. ltb-false size (sheet_most form1) e)

  written_ok : (access_read access).ok ≡ true
  written_ok =
      by_bool ((access_read access).ok ≡ true) (access_read access).ok (λ e. e)
      (λ e. absurd (refuses_not _ tt (sym (ap (λ (w : Made). w.told) (writes_profile access t size written_room e)) ∙ done)))

  written_good : table_good instances_most (access_read access).profile t ≡ true
  written_good =
      by_bool (table_good instances_most (access_read access).profile t ≡ true) (table_good instances_most (access_read access).profile t)
      (λ e. e)
      (λ e. absurd (refuses_not _ tt (sym (ap (λ (w : Made). w.told) (writes_table access t size written_room written_ok e)) ∙ done)))

  written_octets : (wrote_sheet access t size).octets ≡ sheet_octets form1 t.last (instances_of t.run)
  written_octets = ap (λ (w : Made). w.octets) (writes_sheet access t size written_room written_ok written_good)

  module _ (arrays : Each Arrays (instances_of t.run)) where
    -- there was room for the sheet
    written_fits : length (wrote_sheet access t size).octets ≤ size
    written_fits = omega (arith, written_room, sheet_written_most access t size arrays)

    -- its octets are read as that table
    pub octets_back : ReadsAs access (wrote_sheet access t size).octets t
    octets_back = rw written_octets (table_back access t written_ok written_good arrays)

-- what `write_sheet` wrote, `read_sheet` reads back as a table that holds the same
module _ (access : List ℕ) (t : Table) (arrays : Each Arrays (instances_of t.run)) (xs : List ℕ) (n : ℕ) (ys : List ℕ)
    (wrote : WritesSheet access t xs (Ok n) ys) where
  abbrev s : List ℕ
  s = (wrote_sheet access t (length xs)).octets

  told : (wrote_sheet access t (length xs)).told ≡ tells tt
  told = sym wrote.told

  sheet_is : take n ys ≡ s
  sheet_is = rw (wrote.count, wrote.lent) (take_over xs s (written_fits access t (length xs) told arrays))

  same : read_sheet access (take n ys) ≡ read_sheet access s
  same = ap (read_sheet access) sheet_is

  back : ReadsAs access s t
  back = octets_back access t (length xs) told arrays

  pub written_back :
      (r : Result Table Refusal) → ReadsSheet access (take n ys) r → (r ≡ Ok (table_read r)) × SameInstances t (table_read r)
  written_back (Err refusal) read = absurd (refuses_not _ tt (read.told ∙ ap (λ q. q.told) same ∙ back.accepted))
  written_back (Ok u) read = (refl, rw (read.table, same) back.alike)

-- what is written of the table that an accepted sheet gives is that sheet
pub accepted_written :
    (access s : List ℕ) → ((i : ℕ) → get_or s i 0 < 256) → (read_sheet access s).told ≡ tells tt → (size : ℕ) → sheet_most form1 ≤ size →
    wrote_sheet access (read_sheet access s).table size ≡ made s
accepted_written access s small told size room =
    writes_sheet access (read_sheet access s).table size room (read_ok access s told) (read_good access s told)
    ∙ ap made (sym (accepted_table access s told small))

-- what `read_sheet` accepts has at most 1,613 octets
pub sheet_accepted :
    (access s : List ℕ) → ((i : ℕ) → get_or s i 0 < 256) → (t : Table) → ReadsSheet access s (Ok t) → length s ≤ 1613
sheet_accepted access s small t read = accepted_size access s (sym read.told) small

-- what `read_sheet` accepted, `write_sheet` writes again, octet for octet
pub accepted_again :
    (access s : List ℕ) → ((i : ℕ) → get_or s i 0 < 256) → (t : Table) → ReadsSheet access s (Ok t) →
    (xs : List ℕ) → sheet_most form1 ≤ length xs → (w : Result ℕ Refusal) (ys : List ℕ) → WritesSheet access t xs w ys →
    (w ≡ Ok (length s)) × (ys ≡ over xs 0 s)
accepted_again access s small t read xs room w ys wrote =
    let is : wrote_sheet access t (length xs) ≡ made s =
    ap (λ (u : Table). wrote_sheet access u (length xs)) read.table
    ∙ accepted_written access s small (sym read.told) (length xs) room in (
      written_same w (Ok (length s)) (wrote.told ∙ ap (λ (x : Made). x.told) is)
          (wrote.count ∙ ap (λ (x : Made). length x.octets) is),
      wrote.lent ∙ ap (λ (x : Made). over xs 0 x.octets) is,
    )
