-- A record of the zone table changed in place: all others stay.
use Rattle.std.proofs.Common.{◌≡◌, ℕ, ◌<◌, ◌≤◌, List, [], ◌∷◌, length, Some, get_or, set, ℤ, pos, negsuc, nat_abs, sym, refl, ap, ◌∙◌, subst, arith}
use Rattle.std.proofs.lemmas.Int.{ints}
use Rattle.std.proofs.lemmas.List.{length-set, get_or-set_same, get_or-set_other}
use Rattle.book.specs.declared.ZoneRecord.{ZoneRecord}
use Rattle.book.specs.Views.{View, Period, Zone, slot, blank, record_in, record_of, with_records}
use Rattle.book.specs.declared.Answer.TheVariants.{Done}
use Rattle.book.specs.declared.Call.{Call}
use Rattle.book.specs.declared.state.State.{State}
use Rattle.book.specs.States.{state_after}
use Rattle.book.specs.Grounds.{AllClear, no_period, no_zone, bad_amount, wrong_state}
use Rattle.book.specs.Calls.{Answers, OnlyRecord}
use Rattle.book.proofs.Orders.{zone_clear, amount_clear, state_clear}
use Rattle.region.specs.declared.table.Slot.{Slot}

-- a period by its number
numbered : (p : ℤ) → Period p → (p ≡ pos (nat_abs p)) × ((1 ≤ nat_abs p) × (nat_abs p ≤ 24))
numbered (pos n) day = (refl, (let a = day.0 in omega (arith, ints), let b = day.1 in omega (arith, ints)))
numbered (negsuc n) day = absurd (let a = day.0 in omega (arith, ints))

-- two records stand in one place only if they are the same
slot_once : (y z : ℕ) (q p : ℤ) → Period q → Period p → slot y q ≡ slot z p → (y ≡ z) × (q ≡ p)
slot_once y z q p dq dp e =
    let a = numbered q dq in
    let b = numbered p dp in
    let al = a.1.0 in
    let ah = a.1.1 in
    let bl = b.1.0 in
    let bh = b.1.1 in
    (omega arith, a.0 ∙ ap pos (omega arith) ∙ sym b.0)

pub only_record : (v : View) (rs : List ZoneRecord) (z : ℕ) (p : ℤ) (r : ZoneRecord) → length v.records ≡ 384 → z < 16 → Period p → rs ≡ set v.records (slot z p) r →
    OnlyRecord v (with_records v rs) z p r
only_record v rs z p r many few day e =
    let b = numbered p day in
    let bl = b.1.0 in
    let bh = b.1.1 in
    record {
      this = ap (λ xs. get_or xs (slot z p) blank) e ∙ get_or-set_same v.records (slot z p) r blank (omega arith);
      others = λ y q dq apart. ap (λ xs. get_or xs (slot y q) blank) e ∙ get_or-set_other v.records (slot z p) (slot y q) r blank (λ same. apart (slot_once y z q p dq day same));
      many = ap length e ∙ length-set v.records (slot z p) r;
      rest = refl;
    }

-- of the records only that of a slot is another, made of the one that was there
put_record : (v : View) (rs : List ZoneRecord) (s : Slot) (z p : ℤ) (f : ZoneRecord → ZoneRecord) → s.zone ≡ nat_abs z → s.period ≡ p → length v.records ≡ 384 →
    rs ≡ set v.records (slot s.zone s.period) (f (record_in v.records s.zone s.period)) → OnlyRecord v (with_records v rs) (nat_abs z) p (f (record_of v (nat_abs z) p))
put_record v rs s z p f at_z at_p many e =
    subst (λ (k : ℕ). OnlyRecord v (with_records v rs) k p (f (record_of v k p))) at_z
    (subst (λ (q : ℤ). OnlyRecord v (with_records v rs) s.zone q (f (record_of v s.zone q))) at_p (only_record v rs s.zone s.period (f (record_in v.records s.zone s.period)) many s.few s.in_day e))

-- what a call leaves that changes the record of a zone and period alone, once its grounds are judged
pub record_changed : (v : View) (call : Call) (z p : ℤ) (s : Slot) (allowed : Type 0) (next : State) (rs : List ZoneRecord) (f : ZoneRecord → ZoneRecord) →
    Period p × Zone v.zones z × (s.zone ≡ nat_abs z) × (s.zone < v.zones) × (s.period ≡ p) → allowed → state_after v.state call ≡ Some next → length v.records ≡ 384 →
    rs ≡ set v.records (slot s.zone s.period) (f (record_in v.records s.zone s.period)) →
    AllClear (no_period p ∷ no_zone v.zones z p ∷ bad_amount allowed p ∷ wrong_state v call p ∷ []) × (Answers Done [] refl Done × OnlyRecord v (with_records v rs) (nat_abs z) p (f (record_of v (nat_abs z) p)))
record_changed v call z p s allowed next rs f found yes' after many e =
    let clear = zone_clear v.zones z p found.0 found.1 in
    ((clear.0, (clear.1.0, (amount_clear allowed p yes', (state_clear v call p next after, tt)))), (refl, put_record v rs s z p f found.2 found.4 many e))
