-- The grounds of a sheet, judged one after another: what each refusal tells, and what an accepted sheet leaves.
use Rattle.std.proofs.Common.{◌≡◌, ℕ, ◌<◌, ◌≤◌, true, false, List, [], ◌∷◌, ℤ, nat_abs, IsErrAnd, IsOk, MatchResult, is_ok, Some, None, Ok, Err, Result, sym, refl, ap, ◌∙◌, subst, inl, inr, arith}
use Rattle.std.proofs.lemmas.Bool.{both_ways}
use Rattle.borders.specs.Border.{Meaning, passing, flow_of}
use Rattle.borders.specs.Answers.{Reassessed, ReassessAnswer}
use Rattle.borders.specs.Bank.{border_at, OthersStay, own_answer}
use Rattle.borders.specs.declared.Sheet.{Sheet}
use Rattle.borders.specs.declared.BorderFault.{BorderFault}
use Rattle.borders.specs.declared.BorderFault.TheVariants.{Reassess}
use Rattle.borders.specs.declared.bank.BankFault.{BankFault}
use Rattle.logs.specs.Entries.{capacity_of}
use Rattle.logs.specs.Logs.{Entered}
use Rattle.logs.specs.declared.Log.{Log}
use Rattle.logs.specs.declared.LogFull.{LogFull}
use Rattle.book.specs.declared.state.State.{State}
use Rattle.book.specs.declared.Answer.{Answer}
use Rattle.book.specs.declared.Answer.TheVariants.{Done}
use Rattle.book.specs.declared.fault.RegionFault.{RegionFault}
use Rattle.book.specs.declared.fault.RegionFault.TheVariants as fault
use Rattle.book.specs.declared.Call.TheVariants as call
use Rattle.book.specs.States.{state_after}
use Rattle.book.specs.Faults.{of_border, of_state}
use Rattle.book.specs.declared.AcceptedSheet.{AcceptedSheet}
use Rattle.book.specs.Views.{View, Logged, log_of, Period, Border, border_of, with_borders, with_sheets}
use Rattle.book.specs.Grounds.{Clear, FirstHolds, AllClear, no_period, no_border, refused_by, fails_test, wrong_state, FlowsEarly, early_power_flow}
use Rattle.book.specs.Calls.{grounds, CallDid, joined, Assessed}
use Rattle.book.proofs.Orders.{clear, refused, border_clear, state_clear}
use Rattle.region.specs.Seen.{logged}

-- a border's refusal is told by its number, the period and its cause
pub told_by_border : (e : BankFault) (c : ℕ) (p : ℤ) (cause : BorderFault) → e.border ≡ c → e.period ≡ p → e.cause ≡ cause → of_border e ≡ refused_by c p cause
told_by_border e c p cause eb ep ec =
    ap (λ k. refused_by k e.period e.cause) eb ∙ ap (λ q. refused_by c q e.cause) ep ∙ ap (refused_by c p) ec

-- a border accepts a sheet that passes
pub accepts_passing : (was new : Meaning) (x : Sheet) (p : ℤ) (r : Result (Unit {0}) BankFault) → passing was x p ≡ true → ReassessAnswer was x p (own_answer r) new → IsOk r × Reassessed was new x p
accepts_passing was new x p (Ok u) passes answer = (refl, answer.1)
accepts_passing was new x p (Err e) passes answer = absurd (let refused = answer.0 in cc)

-- a log that is as it was, and one that a record joined
pub logged_is : {X : Type 0} (xs ys : List X) (m n : ℕ) → xs ≡ ys → m ≡ n → log_of xs m ≡ log_of ys n
logged_is xs ys m n e f = ap (λ zs. log_of zs m) e ∙ ap (log_of ys) f

-- a sheet for a border that is there, in a period of the day, whatever the logs hold: each ground refuses where all before it are clear
module _ (v : View) (c p : ℤ) (x : Sheet) (day : Period p) (there : Border v.zones c) where
  judged : AllClear (no_period p ∷ no_border v.zones c p ∷ [])
  judged = border_clear v.zones c p day there

  pub test_refuses : passing (border_of v c) x p ≡ false → FirstHolds (grounds v (call.Sheet c p x)) (refused_by (nat_abs c) p Reassess)
  test_refuses no' = inr (judged.0, inr (judged.1.0, inl (no', refl)))

  module _ (passes : passing (border_of v c) x p ≡ true) where
    tested : Clear (fails_test v c p x)
    tested = clear (passing (border_of v c) x p ≡ false) _ (λ e. both_ways _ e passes)

    pub state_refuses : state_after v.state (call.Sheet c p x) ≡ None → FirstHolds (grounds v (call.Sheet c p x)) (fault.State p)
    state_refuses e = inr (judged.0, inr (judged.1.0, inr (tested, inl (e, refl))))

    module _ (s : State) (allowed : state_after v.state (call.Sheet c p x) ≡ Some s) where
      open' : Clear (wrong_state v (call.Sheet c p x) p)
      open' = state_clear v (call.Sheet c p x) p s allowed

      pub flow_refuses : FlowsEarly x v.state → FirstHolds (grounds v (call.Sheet c p x)) (fault.PowerFlow c p)
      flow_refuses early = inr (judged.0, inr (judged.1.0, inr (tested, inr (open', inl (early, refl)))))

      module _ (in_time : FlowsEarly x v.state → ⊥) where
        flows : Clear (early_power_flow v c p x)
        flows = clear (FlowsEarly x v.state) _ in_time

        pub log_refuses : capacity_of v.sheets.memory ≤ v.sheets.count → FirstHolds (grounds v (call.Sheet c p x)) (fault.Full p)
        log_refuses l = inr (judged.0, inr (judged.1.0, inr (tested, inr (open', inr (flows, inl (l, refl))))))

        pub sheet_clear : v.sheets.count < capacity_of v.sheets.memory → AllClear (grounds v (call.Sheet c p x))
        sheet_clear l = (judged.0, (judged.1.0, (tested, (open', (flows, (clear (capacity_of v.sheets.memory ≤ v.sheets.count) _ (λ m. omega arith), tt))))))

-- what an accepted sheet leaves
pub assessed : (v : View) (c p : ℤ) (x : Sheet) (bs : List Meaning) (l : Logged AcceptedSheet) (k : ℕ) (flow : ℤ) →
    k ≡ nat_abs c → flow ≡ flow_of (border_at v.borders k) p → Reassessed (border_at v.borders k) (border_at bs k) x p → OthersStay k v.borders bs →
    l ≡ joined v.sheets (record { border = c; period = p; flow = flow; sheet = x }) → Assessed v (with_sheets (with_borders v bs) l) c p x
assessed v c p x bs l k flow at_c is re others log = record {
  reassessed = subst (λ (j : ℕ). Reassessed (border_at v.borders j) (border_at bs j) x p) at_c re;
  others = subst (λ (j : ℕ). OthersStay j v.borders bs) at_c others;
  rest = ap (with_sheets (with_borders v bs)) (log ∙ ap (λ f. joined v.sheets (record { border = c; period = p; flow = f; sheet = x })) (is ∙ ap (λ j. flow_of (border_at v.borders j) p) at_c));
}

-- border c, found at k in a period of the day
abbrev pub Found : View → ℤ → ℤ → ℕ → Type 0
Found v c p k = Period p × Border v.zones c × (k ≡ nat_abs c) × (k < v.zones)

-- the same of a call that looked its border up, with its answer
module _ (v : View) (c p : ℤ) (x : Sheet) (k : ℕ) (found : Found v c p k) where
  -- the sheet fails the border's test
  pub test_refused : (e : BankFault) (r : Result Answer RegionFault) → IsErrAnd r (λ y. y ≡ of_border e) → (passing (border_at v.borders k) x p ≡ false) × (e.cause ≡ Reassess) → (e.border ≡ k) × (e.period ≡ p) →
      CallDid v (call.Sheet c p x) r v
  test_refused e r is own named =
      refused v (call.Sheet c p x) r (of_border e) is
      (subst (FirstHolds (grounds v (call.Sheet c p x))) (sym (told_by_border e (nat_abs c) p Reassess (named.0 ∙ found.2) named.1 own.1))
      (test_refuses v c p x found.0 found.1 (rw found.2 at own.0)))

  module _ (passes : passing (border_at v.borders k) x p ≡ true) where
    own_passes : passing (border_of v c) x p ≡ true
    own_passes = rw found.2 at passes

    -- the state does not allow it
    pub state_refused : (f : RegionFault) (r : Result Answer RegionFault) → IsErrAnd r (λ y. y ≡ f) → (state_after v.state (call.Sheet c p x) ≡ None) × (f ≡ of_state p) → CallDid v (call.Sheet c p x) r v
    state_refused f r is told =
        refused v (call.Sheet c p x) r f is (subst (FirstHolds (grounds v (call.Sheet c p x))) (sym told.1) (state_refuses v c p x found.0 found.1 own_passes told.0))

    module _ (s : State) (allowed : state_after v.state (call.Sheet c p x) ≡ Some s) where
      -- a power flow comes too early
      pub flow_refused : FlowsEarly x v.state → CallDid v (call.Sheet c p x) (Err (fault.PowerFlow c p)) v
      flow_refused early = (flow_refuses v c p x found.0 found.1 own_passes s allowed early, refl)

      module _ (in_time : FlowsEarly x v.state → ⊥) (a : AcceptedSheet) (entered : Result ℕ LogFull) (was new : Log AcceptedSheet) (seen_log : v.sheets ≡ logged was) (entry : Entered was a entered new) where
        -- the log is full
        pub log_refused : (f : RegionFault) (r : Result Answer RegionFault) → IsErrAnd r (λ y. y ≡ f) → MatchResult entered (λ n. ◌≡◌ {A = Result ℕ RegionFault} (Err f) (Ok n)) (λ e. f ≡ fault.Full p) →
            CallDid v (call.Sheet c p x) r (with_sheets v (logged new))
        log_refused f r is told = full entered entry told
          where
            full : (entered : Result ℕ LogFull) → Entered was a entered new → MatchResult entered (λ n. ◌≡◌ {A = Result ℕ RegionFault} (Err f) (Ok n)) (λ e. f ≡ fault.Full p) →
                CallDid v (call.Sheet c p x) r (with_sheets v (logged new))
            full (Ok n) entry e = absurd (cc)
            full (Err e) entry told =
                subst (λ (l : Logged AcceptedSheet). CallDid v (call.Sheet c p x) r (with_sheets v l)) (seen_log ∙ sym (logged_is _ _ _ _ entry.2 entry.1))
                (refused v (call.Sheet c p x) r f is
                (subst (FirstHolds (grounds v (call.Sheet c p x))) (sym told)
                (log_refuses v c p x found.0 found.1 own_passes s allowed in_time (subst (λ (l : Logged AcceptedSheet). capacity_of l.memory ≤ l.count) (sym seen_log) entry.0))))

        -- the sheet is accepted, and is in the log
        pub sheet_accepted : true ≡ is_ok entered → (flow : ℤ) → a ≡ record { border = c; period = p; flow = flow; sheet = x } → flow ≡ flow_of (border_at v.borders k) p →
            (bs : List Meaning) → Reassessed (border_at v.borders k) (border_at bs k) x p → OthersStay k v.borders bs → CallDid v (call.Sheet c p x) (Ok Done) (with_sheets (with_borders v bs) (logged new))
        sheet_accepted ok flow of_flow is bs re others = joins entered entry ok
          where
            joins : (entered : Result ℕ LogFull) → Entered was a entered new → true ≡ is_ok entered → CallDid v (call.Sheet c p x) (Ok Done) (with_sheets (with_borders v bs) (logged new))
            joins (Ok j) entry e = (
              sheet_clear v c p x found.0 found.1 own_passes s allowed in_time (subst (λ (l : Logged AcceptedSheet). l.count < capacity_of l.memory) (sym seen_log) entry.0),
              (refl, assessed v c p x bs (logged new) k flow found.2 is re others (logged_is _ _ _ _ entry.4 entry.2 ∙ ap (λ l. joined l a) (sym seen_log) ∙ ap (joined v.sheets) of_flow)),
            )
            joins (Err e) entry ok = absurd (cc)
