-- What a table that breaks no rule gives a night sheet: at most 24 instances, each of at most 67 octets. Assumes nothing.
use Prim.Native.Nat.{ℕ, ◌≤◌, ◌<◌}
use mathlib.Core.Path.{◌≡◌, sym, ◌∙◌}
use mathlib.Core.Bool.{true, false≢true}
use mathlib.Core.List.{List, [], ◌∷◌}
use native.Mathlib.Omega.{arith}
use lib.ListN.{length, get_or, length-take}
use lib.Dec.{leb}
use borrow.Author.Tests.{lt-ltb, ne_eqb, leb-true}
use Rattle.laws.proofs.Picks.{by_bool}
use Rattle.laws.proofs.Eaches.{Each}
use Rattle.codes.proofs.Tables.{service_most}
use Rattle.numbers.specs.Number.{most}
use Rattle.profile.specs.Profile.{subscribed_services, profile_good}
use Rattle.profile.specs.declared.profile.Profile.{Profile}
use Rattle.profile.proofs.Profiles.{good_profile}
use Rattle.lists.specs.Entries.{instances_most}
use Rattle.instances.specs.Instance.{instance_good}
use Rattle.instances.specs.Places.{run_most}
use Rattle.instances.specs.Run.{instances_of, run_good}
use Rattle.instances.specs.declared.instance.Instance.{Instance}
use Rattle.instances.proofs.Orders.{too_long}
use Rattle.instances.proofs.Keys.{up_ascending}
use Rattle.instances.proofs.Fits.{among_known, fits_of}
use Rattle.instances.proofs.Goods.{GoodList, good_short, run_good_lem, few_is}
use Rattle.exchange.specs.Table.{table_good}
use Rattle.exchange.specs.declared.table.Table.{Table}
use Rattle.exchange.proofs.Tables.{table_good_lem}
use Rattle.forms.specs.Size.{instance_most, sheet_most}
use Rattle.forms.specs.Form.{form1}
use Rattle.forms.specs.Instance.{all_groups, instance_fields}
use Rattle.forms.specs.Sheet.{sheet_octets, in_order}
use Rattle.forms.proofs.Fits.{held_is, FieldsFit, order_is, form1_short}
use Rattle.forms.proofs.Sizes.{instance_most_lem, sheet_most_lem}
use Rattle.sheets.specs.inner.Write.{Writable, AllWritable}

-- ---- an instance

-- the arrays in the address of an instance, as a machine's are: all their places, and octets in them
pub record Arrays (x : Instance) : Type 0 where
  pub digits : length x.address.number.digits ≡ most
  pub sub : length x.address.sub ≡ most
  pub octets : (i : ℕ) → get_or x.address.sub i 0 < 256

-- what is written is such an instance, of at most 67 octets
pub writable_fits : (x : Instance) → Writable x → Arrays x → FieldsFit form1 x
writable_fits x so arrays = record {
  procedure = so.procedure;
  number = so.number;
  service = so.service;
  address = held_is x.address so.address arrays.digits arrays.sub arrays.octets;
}

pub writable_most : (x : Instance) → Writable x → Arrays x → length (all_groups (instance_fields x)) ≤ instance_most
writable_most x so arrays = instance_most_lem form1 form1_short x (writable_fits x so arrays)

-- an instance of a profile is one that a sheet may hold
good_writable : (p : Profile) → profile_good p ≡ true → (x : Instance) → instance_good p x ≡ true → Writable x
good_writable p profile x h =
    let rules = good_profile p profile in
    let so = fits_of p.subscribed p.numbercount (subscribed_services p) x h in
    let code = among_known 0 x.service (subscribed_services p) rules.rises so.service in
    record {
      procedure = so.procedure;
      number = omega (arith, so.number, rules.few);
      service = rw (
        ne_eqb x.service 0 (λ e. omega (arith, code.0)),
        lt-ltb x.service 256 (omega (arith, service_most x.service code.1)),
        code.1,
      );
      address = so.address;
    }

each_writable :
    (p : Profile) → profile_good p ≡ true → (l : List Instance) → Each (λ x. instance_good p x ≡ true) l → AllWritable l
each_writable p profile [] h = tt
each_writable p profile (x ∷ l) h = (good_writable p profile x h.0, each_writable p profile l h.1)

-- ---- a table that breaks no rule

module _ (p : Profile) (t : Table) (good : table_good instances_most p t ≡ true) where
  good_run : run_good instances_most p t.run ≡ true
  good_run = (table_good_lem instances_most p t good).1

  pub table_list : GoodList p instances_most (instances_of t.run)
  table_list = run_good_lem p instances_most t.run good_run

  -- "at most 8 for each procedure": at most 24
  pub instances_few : length (instances_of t.run) ≤ run_most
  instances_few = good_short p (instances_of t.run) table_list

  -- what it counts is in its array
  pub instances_count : length t.run.run ≡ run_most → length (instances_of t.run) ≡ t.run.count
  instances_count long =
      let few : t.run.count ≤ run_most =
      by_bool (t.run.count ≤ run_most) (leb t.run.count run_most)
      (λ e. leb-true t.run.count run_most e)
      (λ e. absurd (false≢true (sym (too_long p t.run instances_most e) ∙ good_run))) in
      omega (arith, few, long, length-take t.run.count t.run.run)

  pub table_writable : profile_good p ≡ true → AllWritable (instances_of t.run)
  table_writable profile = each_writable p profile (instances_of t.run) table_list.each

-- ---- and whose arrays are as a machine's

all_fit : (l : List Instance) → AllWritable l → Each Arrays l → Each (FieldsFit form1) l
all_fit [] h arrays = tt
all_fit (x ∷ l) h arrays = (writable_fits x h.0 arrays.0, all_fit l h.1 arrays.1)

module _ (p : Profile) (t : Table) (good : table_good instances_most p t ≡ true) (profile : profile_good p ≡ true)
    (arrays : Each Arrays (instances_of t.run)) where
  abbrev is : List Instance
  is = instances_of t.run

  -- its instances are such as a sheet may hold
  pub table_fits : Each (FieldsFit form1) is
  table_fits = all_fit is (table_writable p t good profile) arrays

  pub table_order : in_order form1 is ≡ true
  table_order =
      let so = table_list p t good in
      order_is form1 is (up_ascending 0 is so.ascends) (few_is instances_most is so.few)

  -- "under .. 1,613 (sheet)": every sheet fits there
  pub sheet_fits : length (sheet_octets form1 t.last is) ≤ sheet_most form1
  sheet_fits = sheet_most_lem form1 form1_short t.last is (table_good_lem instances_most p t good).0 table_fits (instances_few p t good)
