-- Condition n of a book, as the code finds it, and what compiling it makes.
use Prim.Native.Nat.{ℕ, ◌+◌, ◌*◌, ◌≤◌, ◌<◌}
use mathlib.Core.List.{List, map}
use mathlib.Core.Path.{◌≡◌, refl, sym, ap, subst, ◌∙◌}
use native.Mathlib.Omega.{arith}
use lib.ListN.{length, get_or, length-map}
use Rattle.std.specs.List.{sum}
use Rattle.std.proofs.lemmas.List.{get_or_default}
use Rattle.answers.specs.Answers.{Answer, result, refused}
use Rattle.layout.specs.Records.{Record}
use Rattle.layout.specs.Writing.{put_records}
use Rattle.peal.specs.Policies.{Exclusion, Condition, Book}
use Rattle.peal.specs.Standins.{no_condition}
use Rattle.translation.specs.Translation.{listing_records}
use Rattle.book.specs.Asked.{the_condition}
use Rattle.book.specs.Ranges.{ConditionInRange, BookInRange}
use Rattle.book.proofs.KeptLaws.{condition-kept}
use Rattle.compiler.specs.Compiling.{fitting, returned, lent_after}
use Rattle.compiler.specs.Nodes.{nodes_of, lines_in, most_lines}
use Rattle.compiler.proofs.CodedNodes.{nodes-count, codes-few, lines-few}
use Rattle.compiler.proofs.NodeTurns.{records-counted}
use Rattle.compiler.proofs.RoomLaws.{room-returned, room-lent, no-room-returned, no-room-lent}

module _ (b : Book) (n : ℕ) (there : n < length b.conditions) {conditions : List Condition} (same : conditions ≡ b.conditions) {d : Condition} (is : d ≡ get_or conditions n d) where
  pub condition-found : d ≡ the_condition b n
  condition-found = is ∙ ap (λ (l : List Condition). get_or l n d) same ∙ get_or_default b.conditions n d no_condition there

  -- the lines of its nodes
  module _ {lines : List ℕ} (counted : lines ≡ map lines_in (nodes_of b d)) where
    pub few-lines : BookInRange b → (length lines ≤ 31) × (sum lines ≤ most_lines)
    few-lines books =
        let range : ConditionInRange (length b.policies) d =
        subst (ConditionInRange (length b.policies)) (sym condition-found) (condition-kept b n there books) in (
          omega (arith, ap length counted, length-map (nodes_of b d) lines_in, nodes-count b d refl, codes-few b d refl range),
          omega (arith, ap (λ (l : List ℕ). sum l) counted, lines-few b d refl range books),
        )

    -- its records, those of the exclusions among them
    module _ {exclusions : List Exclusion} (pairs : exclusions ≡ b.exclusions) {records : ℕ} (all : records ≡ length exclusions + length lines + sum lines) where
      pub records-found : records ≡ length (listing_records b d)
      records-found = records-counted b d (length exclusions) (ap length pairs) counted all

      module _ (w : List ℕ) where
        abbrev answer : Condition → Answer (List Record)
        answer c = fitting (length w) (listing_records b c)

        pub refused-found : length w < records * 4 → refused 8 0 ≡ returned (answer (the_condition b n))
        refused-found h =
            subst (λ (c : Condition). refused 8 0 ≡ returned (answer c)) condition-found (no-room-returned (listing_records b d) w (omega (arith, records-found)))

        pub kept-found : length w < records * 4 → w ≡ lent_after w (answer (the_condition b n))
        kept-found h = subst (λ (c : Condition). w ≡ lent_after w (answer c)) condition-found (no-room-lent (listing_records b d) w (omega (arith, records-found)))

        pub returned-found : records * 4 ≤ length w → result records ≡ returned (answer (the_condition b n))
        returned-found h =
            subst (λ (c : Condition). result records ≡ returned (answer c)) condition-found
            (ap (λ (k : ℕ). result k) records-found ∙ room-returned (listing_records b d) w (omega (arith, records-found)))

        pub written-found : records * 4 ≤ length w → put_records w 1 (listing_records b d) ≡ lent_after w (answer (the_condition b n))
        written-found h =
            subst (λ (c : Condition). put_records w 1 (listing_records b d) ≡ lent_after w (answer c)) condition-found
            (room-lent (listing_records b d) w (omega (arith, records-found)))
