-- A table that is written as a night sheet and read again: the same last handled identifier and the same instances, with zeros past
-- the digits and octets of their addresses. Assumes nothing.
use Prim.Native.Nat.{ℕ}
use mathlib.Core.Path.{◌≡◌, refl, ap, ◌∙◌}
use mathlib.Core.Bool.{true}
use mathlib.Core.List.{List, [], ◌∷◌, map}
use lib.ListN.{length}
use Rattle.laws.specs.Got.{got}
use Rattle.laws.proofs.Gots.{found_is}
use Rattle.laws.proofs.Stands.{stands_whole}
use Rattle.laws.proofs.Eaches.{Each}
use Rattle.refusals.specs.Refusal.{tells}
use Rattle.profile.specs.Access.{access_read}
use Rattle.profile.specs.Profile.{subscribed_services, profile_good}
use Rattle.profile.specs.declared.profile.Profile.{Profile}
use Rattle.profile.proofs.Records.{access_good}
use Rattle.lists.specs.Entries.{instances_most}
use Rattle.instances.specs.Instance.{instance_good}
use Rattle.instances.specs.Run.{instances_of, packed, instances_good}
use Rattle.instances.specs.declared.instance.Instance.{Instance}
use Rattle.instances.proofs.Keys.{up_of}
use Rattle.instances.proofs.Fits.{fits_of, fits_is}
use Rattle.instances.proofs.Goods.{few_of, list_good_lem}
use Rattle.exchange.specs.Table.{table_of, table_good}
use Rattle.exchange.specs.declared.table.Table.{Table}
use Rattle.exchange.proofs.Tables.{table_good_lem}
use Rattle.forms.specs.Form.{form1}
use Rattle.forms.specs.Sheet.{Sheet, sheet_octets, sheet_in}
use Rattle.forms.proofs.Fits.{FieldsFit, tidy_instance, order_of, form1_short}
use Rattle.forms.proofs.Sheets.{Allowed, sheet_allowed_lem, allowed_packed}
use Rattle.forms.proofs.Trips.{sheet_back}
use Rattle.sheets.specs.Sheets.{TableRead, read_sheet}
use Rattle.sheets.proofs.WrittenTables.{Arrays, table_list, table_fits, table_order}

-- an instance of the profile is one with zeros past its digits and octets too
tidy_good :
    (p : Profile) (is : List Instance) → Each (λ x. instance_good p x ≡ true) is → Each (FieldsFit form1) (map tidy_instance is) →
    Each (λ x. instance_good p x ≡ true) (map tidy_instance is)
tidy_good p [] h fits = tt
tidy_good p (x ∷ is) h fits =
    let so = fits_of p.subscribed p.numbercount (subscribed_services p) x h.0 in (
      fits_is p.subscribed p.numbercount (subscribed_services p) (tidy_instance x) (record {
        procedure = so.procedure;
        subscribes = so.subscribes;
        number = so.number;
        service = so.service;
        address = fits.0.address.good;
      }),
      tidy_good p is h.1 fits.1,
    )

-- ---- what is read of the sheet of a table that breaks no rule

module _ (p : Profile) (t : Table) (good : table_good instances_most p t ≡ true) (profile : profile_good p ≡ true)
    (arrays : Each Arrays (instances_of t.run)) where
  abbrev octets : List ℕ
  octets = sheet_octets form1 t.last (instances_of t.run)

  abbrev again : Sheet
  again = record { last = t.last; instances = map tidy_instance (instances_of t.run) }

  found : sheet_in form1 octets ≡ got again (length octets)
  found =
      sheet_back form1 form1_short t.last (instances_of t.run) octets (table_good_lem instances_most p t good).0
      (table_fits p t good profile arrays) (table_order p t good profile arrays) (stands_whole octets) refl

  allowed : Allowed form1 again
  allowed = found_is (Allowed form1) found (sheet_allowed_lem form1 octets)

  again_good : instances_good instances_most p again.instances ≡ true
  again_good =
      let so = order_of form1 again.instances allowed.order in
      list_good_lem p instances_most again.instances (record {
        ascends = up_of 0 again.instances so.0;
        each = tidy_good p (instances_of t.run) (table_list p t good).each allowed.each;
        few = few_of instances_most again.instances so.1;
      })

  all_there : instances_of (packed again.instances) ≡ again.instances
  all_there = allowed_packed form1 form1_short again allowed

-- ---- tables that hold the same

-- the same last handled identifier, and the same procedures, numbers, services and addresses
pub record SameInstances (t u : Table) : Type 0 where
  pub last : u.last ≡ t.last
  pub instances : instances_of u.run ≡ map tidy_instance (instances_of t.run)

-- a sheet that is read as a table like t: as t itself, with zeros past what it counts
pub record ReadsAs (access s : List ℕ) (t : Table) : Type 0 where
  pub accepted : (read_sheet access s).told ≡ tells tt
  pub table : (read_sheet access s).table ≡ table_of t.last (packed (map tidy_instance (instances_of t.run)))
  pub alike : SameInstances t (read_sheet access s).table

-- the octets of a table that breaks no rule are read as that table
pub table_back :
    (access : List ℕ) (t : Table) → (access_read access).ok ≡ true → table_good instances_most (access_read access).profile t ≡ true →
    Each Arrays (instances_of t.run) →
    ReadsAs access (sheet_octets form1 t.last (instances_of t.run)) t
unfolding read_sheet
table_back access t ok good arrays =
    let p : Profile = (access_read access).profile in
    let profile = access_good access ok in
    let s : List ℕ = sheet_octets form1 t.last (instances_of t.run) in
    let same : Table = table_of t.last (packed (map tidy_instance (instances_of t.run))) in
    let is : read_sheet access s ≡ record { told = tells tt; table = same } =
    rw (ok, found p t good profile arrays, again_good p t good profile arrays) in
    let table : (read_sheet access s).table ≡ same = ap (λ (r : TableRead). r.table) is in
    record {
      accepted = ap (λ (r : TableRead). r.told) is;
      table = table;
      alike = record {
        last = ap (λ (u : Table). u.last) table;
        instances = ap (λ (u : Table). instances_of u.run) table ∙ all_there p t good profile arrays;
      };
    }
