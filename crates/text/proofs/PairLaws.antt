-- Laws of pairs: what reading one at a place comes to, sign by sign, and what it adds to the codes.
use Prim.Native.Nat.{ℕ, zero, suc, ◌+◌, ◌≤◌, ◌<◌}
use mathlib.Core.Path.{◌≡◌, refl, ◌∙◌}
use mathlib.Core.Bool.{true, false}
use mathlib.Core.List.{List, append_assoc}
use mathlib.Core.Option.{none, some}
use native.Mathlib.Omega.{arith}
use lib.ListN.{length, drop}
use Rattle.std.specs.Prelude.{Some, None}
use Rattle.peal.specs.Policies.{Expression}
use Rattle.text.specs.Text.{bytes, begins}
use Rattle.text.specs.Expressions.{leading_pair}
use Rattle.text.specs.Codes.{codes_of}
use Rattle.text.specs.Parsing.{CanRead, Leads, TreeRead, PairLeads, PairRead}
use Rattle.text.specs.declared.expressions.Code.{Code}
use Rattle.text.proofs.WordLaws.{word_room, after-word, no_word}

-- after the left one there is room for the right one
pub can-right : (line : List ℕ) (at : ℕ) (before : List (Code ℕ)) (comma : ℕ) (middle : List (Code ℕ)) → CanRead line at (length before) → TreeRead line (at + 1) before comma middle → comma + 1 ≤ length line
    → CanRead line (comma + 1) (length middle)
can-right line at before comma middle can a h = record { short = can.short; within = h; room = omega (arith, can.room, a.read.room) }

-- every way through the reading of a pair
module _ (line : List ℕ) (at : ℕ) (before codes : List (Code ℕ)) where
  pairs : {a b : Expression} {s : List ℕ} → at < length line → ((j : ℕ) → length line ≤ suc j + at → leading_pair (suc j) (drop at line) ≡ some (a, b, s)) → PairLeads line at (some (a, b, s))
  pairs w f zero l = absurd (omega arith)
  pairs w f (suc j) l = f j l

  pairs-not : ((j : ℕ) → length line ≤ suc j + at → leading_pair (suc j) (drop at line) ≡ none) → PairRead line at before None codes
  unfolding PairRead leading_pair
  pairs-not f zero l = refl
  pairs-not f (suc j) l = f j l

  pub pair-no-open : begins (bytes "(") (drop at line) ≡ false → PairRead line at before None codes
  unfolding leading_pair
  pair-no-open h = pairs-not (λ j l. rw (no_word (bytes "(") (drop at line) h))

  module _ (h : begins (bytes "(") (drop at line) ≡ true) where
    pub pair-no-left : Leads line (at + 1) none → PairRead line at before None codes
    unfolding leading_pair
    pair-no-left f = pairs-not (λ j l. rw (after-word (bytes "(") line at h, f j (omega arith)))

    module _ {comma : ℕ} {middle : List (Code ℕ)} (a : TreeRead line (at + 1) before comma middle) where
      pub pair-no-comma : begins (bytes ",") (drop comma line) ≡ false → PairRead line at before None codes
      unfolding leading_pair
      pair-no-comma c = pairs-not (λ j l. rw (after-word (bytes "(") line at h, a.found j (omega arith), no_word (bytes ",") (drop comma line) c))

      module _ (c : begins (bytes ",") (drop comma line) ≡ true) where
        pub pair-no-right : Leads line (comma + 1) none → PairRead line at before None codes
        unfolding leading_pair
        pair-no-right f = pairs-not (λ j l. rw (after-word (bytes "(") line at h, a.found j (omega arith), after-word (bytes ",") line comma c, f j (omega (arith, a.read.forward))))

        module _ {end : ℕ} (b : TreeRead line (comma + 1) middle end codes) where
          pub pair-no-close : begins (bytes ")") (drop end line) ≡ false → PairRead line at before None codes
          unfolding leading_pair
          pair-no-close d =
              pairs-not (λ j l. rw (after-word (bytes "(") line at h, a.found j (omega arith), after-word (bytes ",") line comma c, b.found j (omega (arith, a.read.forward)), no_word (bytes ")") (drop end line) d))

          pub pair-both : at ≤ length line → begins (bytes ")") (drop end line) ≡ true → PairRead line at before (Some (end + 1)) codes
          unfolding PairRead leading_pair
          pair-both w d =
              record {
                left = a.tree;
                right = b.tree;
                found =
                    pairs (omega (arith, word_room (bytes "(") line at w h))
                    (λ j l. rw (after-word (bytes "(") line at h, a.found j (omega arith), after-word (bytes ",") line comma c, b.found j (omega (arith, a.read.forward)), after-word (bytes ")") line end d));
                read =
                    record {
                      within = word_room (bytes ")") line end b.read.within d;
                      forward = omega (arith, a.read.forward, b.read.forward);
                      room = omega (arith, a.read.room, b.read.room);
                      same = b.read.same ∙ rw a.read.same (append_assoc before (codes_of a.tree) (codes_of b.tree));
                    };
              }

-- every way through `read_pair`
pub ruleset pair_ways = (word_room, can-right, pair-no-open, pair-no-left, pair-no-comma, pair-no-right, pair-no-close, pair-both)
