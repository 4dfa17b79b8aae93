-- The climb that finds a way: the higher of two zones moves to its parent until they meet.
use Rattle.std.proofs.Common.{◌≡◌, ℕ, ◌+◌, ◌-◌, ◌<◌, ◌≤◌, List, [], ◌∷◌, ◌++◌, length, take, drop, set, sym, ap, ◌∙◌, arith}
use Rattle.std.proofs.lemmas.List.{append-nil, append_assoc, drop_all, length-set, take_more_set, take-set-le, drop-set, drop-set-lt, take_rest, length-drop}
use Rattle.std.proofs.lemmas.List.Edits.{take-paste}
use Rattle.std.specs.List.{copy_within}
use Rattle.equations.specs.declared.capacity.Direction.TheVariants.{Forward, Backward}
use Rattle.zones.specs.declared.way.Step.{Step}
use Rattle.zones.specs.Ways.{Ordered, way_along}
use Rattle.zones.specs.Trees.{crossing}
use Rattle.zones.proofs.Sides.{by_sides, seller_first, buyer_last, none_between, way_by_sides}

-- from s and b the climb has come to x and y: the steps before front and those from back on make up, with the way that is left between x and y,
-- the way from s to b
pub record Climbing (up : ℕ → ℕ) (s b x y : ℕ) (steps : List Step) (front back : ℕ) : Type 0 where
  pub memory : length steps ≡ 15
  pub end : back ≤ 15
  pub room_for_seller : front + x ≤ back
  pub room_for_buyer : front + y ≤ back
  pub so_far : take front steps ++ (by_sides up x y ++ drop back steps) ≡ by_sides up s b

module _ {up : ℕ → ℕ} (ordered : Ordered up) {s b x y : ℕ} {steps : List Step} {front back : ℕ} (climbing : Climbing up s b x y steps front back) where
  pub seller_climbs : y < x → Climbing up s b (up x) y (set steps front (crossing Backward x)) (front + 1) back
  seller_climbs l =
      let e = climbing.memory in
      let i = climbing.end in
      let r = climbing.room_for_seller in
      let o = ordered x (omega arith) in
      let entered = take_more_set steps front (crossing Backward x) (omega arith) in
      let kept = drop-set-lt back steps front (crossing Backward x) (omega arith) in
      record {
        memory = length-set steps front (crossing Backward x) ∙ e;
        end = i;
        room_for_seller = omega arith;
        room_for_buyer = omega arith;
        so_far = rw (entered, kept, append_assoc (take front steps) (crossing Backward x ∷ []) (by_sides up (up x) y ++ drop back steps)) (rw (seller_first up ordered x y l) at climbing.so_far);
      }

  pub buyer_climbs : {i : ℕ} → i + 1 ≡ back → x < y → Climbing up s b x (up y) (set steps i (crossing Forward y)) front i
  buyer_climbs {i} at_end l =
      let e = climbing.memory in
      let k = climbing.end in
      let r = climbing.room_for_buyer in
      let o = ordered y (omega arith) in
      let entered = drop-set steps i (crossing Forward y) (omega arith) in
      let kept = take-set-le front steps i (crossing Forward y) (omega arith) in
      record {
        memory = length-set steps i (crossing Forward y) ∙ e;
        end = omega arith;
        room_for_seller = omega arith;
        room_for_buyer = omega arith;
        so_far = rw (kept, entered, at_end) (rw (buyer_last up ordered x y l, append_assoc (by_sides up x (up y)) (crossing Forward y ∷ []) (drop back steps)) at climbing.so_far);
      }

  -- where they have met, the steps from back on are moved down behind those before front
  pub climb_ends : x ≡ y → {n : ℕ} {moved : List Step} → n ≡ front + 15 - back → moved ≡ copy_within steps back (length steps) front → take n moved ≡ way_along up s b
  climb_ends met {n} {moved} many is =
      let e = climbing.memory in
      let i = climbing.end in
      let r = climbing.room_for_seller in
      let d = length-drop back steps in
      ap (take n) is
      ∙ ap (λ k. take k (copy_within steps back (length steps) front)) (omega arith)
      ∙ take-paste steps front (drop back steps) (length steps - back) (omega arith) (omega arith)
      ∙ ap (λ xs. take front steps ++ xs) (take_rest steps back)
      ∙ ap (λ xs. take front steps ++ (xs ++ drop back steps)) (sym (none_between up ordered x y met))
      ∙ climbing.so_far
      ∙ way_by_sides up ordered s b

-- at first no step is written, and the whole way is left
pub climb_starts : (up : ℕ → ℕ) (s b : ℕ) (steps : List Step) → length steps ≡ 15 → s < 16 → b < 16 → Climbing up s b s b steps 0 15
climb_starts up s b steps e l k = record {
  memory = e;
  end = omega arith;
  room_for_seller = omega arith;
  room_for_buyer = omega arith;
  so_far = ap (λ xs. by_sides up s b ++ xs) (drop_all 15 steps (omega arith)) ∙ append-nil (by_sides up s b);
}
