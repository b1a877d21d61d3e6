-- What is known of a record where its tests hold, and of the records where the judgement ends in sound.
use Prim.Native.Nat.{ℕ, ◌+◌, ◌%◌, ◌≤◌}
use mathlib.Core.Bool.{Bool, true, cond, false≢true}
use mathlib.Core.List.{List, [], ◌∷◌}
use mathlib.Core.Option.{none}
use mathlib.Core.Path.{◌≡◌, refl}
use native.Mathlib.Omega.{arith}
use lib.ListN.{length}
use Rattle.answers.specs.Answers.{result}
use Rattle.answers.proofs.Results.{required}
use Rattle.signals.specs.Sets.{is_set, is_pair}
use Rattle.layout.specs.Records.{Record, records, Kind, policy, line, exclusion, kind_of, is_line, kinds, Join, unknown}
use Rattle.layout.specs.Judgement.{if_any, if_line, next_node, SoFar, no_record, inside_policy, keeps_layout, so_far_after, judged, length_sound, verdict}
use Rattle.layout.specs.Nodes.{leading_lines}

-- ---- a test that holds

module _ (n : ℕ) (so : SoFar) (r : Record) (after : List Kind) where
  pub kept_line : keeps_layout n so line r after ≡ true
      → (inside_policy r.mask so.policy_mask ≡ true) × (r.lines ≡ 0) × (r.next ≡ if_line after (n + 1))
  unfolding keeps_layout
  kept_line e = grind (arith, e)

  pub kept-policy : (q t : Bool) → keeps_layout n so (policy q t) r after ≡ true
      → (r.mask ≤ 65535) × (r.lines ≡ if_line after (n + 1)) × (r.next ≡ next_node (n + 1) after) × (so.policies + 1 ≤ 16)
  unfolding keeps_layout is_set
  kept-policy q t e = grind (arith, e)

  pub kept-join : (j : Join) → keeps_layout n so (Kind.join j) r after ≡ true
      → (r.mask ≡ 0) × (r.lines ≡ 0) × (r.next ≡ if_any after (n + 1)) × (2 ≤ so.values)
  unfolding keeps_layout
  kept-join j e = grind (arith, e)

  pub kept-exclusion : keeps_layout n so exclusion r after ≡ true
      → (so.policies ≡ 0) × (n ≤ 16) × (is_pair r.mask ≡ true) × (r.lines ≡ 0) × (r.next ≡ n + 1) × (1 ≤ length after)
  unfolding keeps_layout
  kept-exclusion e = grind (arith, e)

-- where a record follows, it has a number
pub some_after : (ks : List Kind) (k : ℕ) → 1 ≤ length ks → if_any ks k ≡ k
unfolding if_any
some_after [] k h = absurd (omega arith)
some_after (x ∷ ks) k h = refl

-- ---- a judgement that ends in sound

-- one step of it
pub sound-step : (n : ℕ) (so : SoFar) (r : Record) (rest : List Record) → judged n so (r ∷ rest) ≡ result tt
    → (keeps_layout (n + 1) so (kind_of r.kind) r (kinds rest) ≡ true) × (judged (n + 1) (so_far_after so (kind_of r.kind) r) rest ≡ result tt)
unfolding judged
sound-step n so r rest h = required _ 10 (n + 1) _ tt h

-- no line stands where there is no policy for it
pub no-owner : (n : ℕ) (so : SoFar) (rs : List Record) → so.policy_mask ≡ none → judged n so rs ≡ result tt → leading_lines rs ≡ []
unfolding leading_lines is_line keeps_layout inside_policy
no-owner n so [] o h = refl
no-owner n so (r ∷ rest) o h = go (kind_of r.kind) (sound-step n so r rest h).0
  where
    go : (k : Kind) → keeps_layout (n + 1) so k r (kinds rest) ≡ true → cond (is_line k) (r.mask ∷ leading_lines rest) [] ≡ []
    go line e = absurd (false≢true (rw o at e))
    go (policy q t) e = refl
    go (Kind.join j) e = refl
    go exclusion e = refl
    go unknown e = refl

-- sound words are whole records, whose judgement ends in sound
pub sound-judged : (ws : List ℕ) → verdict ws ≡ result tt → (length ws % 4 ≡ 0) × (judged 0 no_record (records ws) ≡ result tt)
unfolding verdict length_sound
sound-judged ws h =
    let s = required (length_sound ws) 9 0 (judged 0 no_record (records ws)) tt h in (grind (arith, s.0), s.1)
