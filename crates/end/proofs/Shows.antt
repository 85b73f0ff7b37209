-- What the page reads: each refusal by its test, and what follows where a procedure is shown as known. Assumes nothing.
use Prim.Native.Nat.{ℕ, ◌-◌, ◌<◌, ◌≤◌}
use mathlib.Core.Path.{◌≡◌, sym, ap, ◌∙◌}
use mathlib.Core.Bool.{true, false}
use mathlib.Core.List.{List}
use native.Mathlib.Omega.{arith}
use lib.ListN.{length, take, get_or, replicate, length-map, get_or-append, get_or-eq_default}
use lib.Seq.{take_all}
use lib.Dec.{ltb, eqb}
use borrow.Author.Tests.{lt-ltb, le-ltb, ltb-true, ltb-false, eq-eqb, ne_eqb, eqb-true, eqb-false}
use Rattle.laws.specs.Mark.{known, mark_no}
use Rattle.laws.proofs.Picks.{by_bool}
use Rattle.laws.proofs.Filled.{get_any}
use Rattle.refusals.specs.Refusal.{refusal_no, Told, refuses, tells}
use Rattle.refusals.specs.declared.refusal.Refusal.TheVariants.{BadProfile, BadTable, BadRequest}
use Rattle.refusals.proofs.Refusals.{tells_same, refuses_not}
use Rattle.codes.proofs.Tables.{procedure_code_lem}
use Rattle.profile.specs.Access.{access_read}
use Rattle.profile.specs.declared.profile.Profile.{Profile}
use Rattle.lists.specs.Entry.{no_entry}
use Rattle.lists.specs.Entries.{instances_most, entries_of}
use Rattle.lists.specs.declared.entry.Entry.{Entry}
use Rattle.lists.specs.declared.entries.Entries.{Entries}
use Rattle.instances.specs.Run.{instances_of, listed, entry_for}
use Rattle.instances.proofs.Goods.{run_good_lem}
use Rattle.instances.proofs.Listeds.{listed_most}
use Rattle.end.specs.End.{mark_at, end_good}
use Rattle.end.specs.Listed.{every_of}
use Rattle.end.specs.Shown.{Seen, seen_known, seen_doubt, shown_no, entries_shown, shown, handed_out, entries_out, ShowsEntry}
use Rattle.end.specs.declared.end.End.{End}
use Rattle.std.specs.Prelude.{Result, Ok}
use Rattle.refusals.specs.declared.refusal.Refusal.{Refusal}
use Rattle.end.specs.declared.show.Shown.{Shown}
use Rattle.end.specs.declared.show.Shown.TheVariants.{Known}
use Rattle.end.proofs.Ends.{picture_good}

module _ (access : List ℕ) (e : End) (procedure : ℕ) where
  abbrev ours : Profile
  ours = (access_read access).profile

  pub shown_profile : (access_read access).ok ≡ false → shown access e procedure ≡ refuses (refusal_no BadProfile)
  unfolding shown
  shown_profile bad = rw bad

  module _ (ok : (access_read access).ok ≡ true) where
    pub shown_end : end_good instances_most ours e ≡ false → shown access e procedure ≡ refuses (refusal_no BadTable)
    unfolding shown
    shown_end bad = rw (ok, bad)

    module _ (good : end_good instances_most ours e ≡ true) where
      pub shown_none : 3 ≤ procedure → shown access e procedure ≡ refuses (refusal_no BadRequest)
      unfolding shown
      shown_none over = rw (ok, good, procedure_code_lem procedure, le-ltb procedure 3 over)

      module _ (code : procedure < 3) where
        pub shown_doubt : (mark_at procedure e.marks ≡ mark_no known → ⊥) → shown access e procedure ≡ tells seen_doubt
        unfolding shown
        shown_doubt not =
            rw (ok, good, procedure_code_lem procedure, lt-ltb procedure 3 code, ne_eqb (mark_at procedure e.marks) (mark_no known) not)

        pub shown_known :
            mark_at procedure e.marks ≡ mark_no known →
            shown access e procedure ≡ tells (seen_known (length (entries_shown ours e procedure)))
        unfolding shown
        shown_known is =
            rw (ok, good, procedure_code_lem procedure, lt-ltb procedure 3 code, eq-eqb (mark_at procedure e.marks) (mark_no known) is)

  pub shown_count :
      length (listed (every_of procedure) (instances_of e.picture)) ≡ length (entries_shown ours e procedure)
  shown_count = sym (length-map (listed (every_of procedure) (instances_of e.picture)) (entry_for ours.numbers))

  -- a procedure that is shown as known is one of a good end, and has so many entries in the picture
  pub record KnownBy (count : ℕ) : Type 0 where
    pub ok : (access_read access).ok ≡ true
    pub good : end_good instances_most ours e ≡ true
    pub code : procedure < 3
    pub mark : mark_at procedure e.marks ≡ mark_no known
    pub entries : count ≡ length (entries_shown ours e procedure)

  module _ (count : ℕ) (is : shown access e procedure ≡ tells (seen_known count)) where
    seen_same : (s : Seen) → shown access e procedure ≡ tells s → seen_known count ≡ s
    seen_same s h = tells_same _ _ (sym is ∙ h)

    no_refusal : {A : Type 0} (n : ℕ) → shown access e procedure ≡ refuses n → A
    no_refusal n h = absurd (refuses_not n (seen_known count) (sym h ∙ is))

    pub known_by : KnownBy count
    known_by =
        by_bool (KnownBy count) (access_read access).ok
        (λ ok.
        by_bool (KnownBy count) (end_good instances_most ours e)
        (λ good.
        by_bool (KnownBy count) (ltb procedure 3)
        (λ below.
        let code = ltb-true procedure 3 below in
        by_bool (KnownBy count) (eqb (mark_at procedure e.marks) (mark_no known))
        (λ m.
        let mark = eqb-true (mark_at procedure e.marks) (mark_no known) m in
        record {
          ok = ok;
          good = good;
          code = code;
          mark = mark;
          entries = ap (λ (s : Seen). get_or s.values 0 0) (seen_same _ (shown_known ok good code mark));
        })
        (λ m.
        absurd
        (omega (
          arith,
          ap (λ (s : Seen). s.mark)
              (seen_same _ (shown_doubt ok good code (eqb-false (mark_at procedure e.marks) (mark_no known) m))),
        ))))
        (λ over. no_refusal _ (shown_none ok good (ltb-false procedure 3 over))))
        (λ bad. no_refusal _ (shown_end ok bad)))
        (λ bad. no_refusal _ (shown_profile bad))

-- ---- the entries that are handed out

-- where the first `i` are not enough there is none, and of what is not known there is none at all
pub entry_none :
    (access : List ℕ) (e : End) (procedure i : ℕ) (told : Result Shown Refusal) → shown_no told ≡ shown access e procedure →
    length (entries_out access e procedure) ≤ i →
    ShowsEntry access e procedure i (record { shown = told; entry = no_entry })
entry_none access e procedure i told is past = record {
  told = is;
  entry = sym (get_or-eq_default (entries_out access e procedure) no_entry past);
}

-- of what is refused, and of a procedure in doubt, none is handed out
pub out_refused :
    (access : List ℕ) (e : End) (procedure number i : ℕ) → refuses number ≡ shown access e procedure →
    length (entries_out access e procedure) ≤ i
out_refused access e procedure number i is = rw (sym is) (omega arith)

pub out_doubt :
    (access : List ℕ) (e : End) (procedure i : ℕ) → tells seen_doubt ≡ shown access e procedure →
    length (entries_out access e procedure) ≤ i
out_doubt access e procedure i is = rw (sym is) (omega arith)

module _ (access : List ℕ) (e : End) (procedure count : ℕ) (is : tells (seen_known count) ≡ shown access e procedure) where
  -- its profile was read
  pub known_read : (access_read access).ok ≡ true
  known_read = (known_by access e procedure count (sym is)).ok

  all_out : entries_out access e procedure ≡ entries_shown (access_read access).profile e procedure
  all_out = ap (λ (t : Told Seen). handed_out t (entries_shown (access_read access).profile e procedure)) (sym is)

  facts : KnownBy access e procedure count
  facts = known_by access e procedure count (sym is)

  pub out_count : length (entries_out access e procedure) ≡ count
  out_count = ap length all_out ∙ sym facts.entries

  -- a good picture has at most 8 of a procedure
  pub count_most : count ≤ instances_most
  count_most =
      omega (
        arith,
        facts.entries,
        listed_most (access_read access).profile (every_of procedure) instances_most (instances_of e.picture)
            (run_good_lem (access_read access).profile instances_most e.picture
            (picture_good instances_most (access_read access).profile e facts.good))
            facts.code,
      )

  module _ (i : ℕ) (there : i < count) (list : Entries) (d : Entry) where
    pub entry_there :
        list ≡ entries_of (take instances_most (entries_shown (access_read access).profile e procedure)) →
        ShowsEntry access e procedure i (record { shown = Ok (Known count); entry = get_or list.entries i d })
    entry_there made =
        let es = entries_shown (access_read access).profile e procedure in
        let few : length es ≤ instances_most = omega (arith, count_most, facts.entries) in
        let below : i < length es = omega (arith, there, facts.entries) in
        record {
          told = is;
          entry =
              rw (made, take_all instances_most es few, all_out)
              (get_or-append es (replicate (instances_most - length es) no_entry) d i below ∙ get_any es i d no_entry below);
        }
