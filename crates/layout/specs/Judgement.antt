-- The layout of a listing, and the verdict on words (document 01, "Record n has", "Sound also means", refusals 9 and 10; change request 1).
use Rattle.std.specs.Prelude.{ℕ, ◌+◌, ◌-◌, ◌%◌, Bool, false, not, cond, ◌&&◌, List, [], ◌∷◌, eqb, leb, length}
use Rattle.std.proofs.Math.Option.{Option, none, some}
use Rattle.answers.specs.Answers.{Answer, result, require}
use Rattle.signals.specs.Sets.{is_set, inside, is_pair}
use Rattle.layout.specs.Records.{Record, records, Kind, policy, line, join, exclusion, unknown, is_line, kind_of, kinds}

-- n, or 0 if nothing follows
unfoldable pub if_any {ℓ} : {A : Type ℓ} → List A → ℕ → ℕ
if_any [] n = 0
if_any (x ∷ xs) n = n

-- n, or 0 if what follows does not begin with a line
unfoldable pub if_line : List Kind → ℕ → ℕ
if_line [] n = 0
if_line (k ∷ ks) n = cond (is_line k) n 0

-- of the kinds of records n, n + 1, .. the number of the first that is no line, or 0 if there is none
unfoldable pub next_node : ℕ → List Kind → ℕ
next_node n [] = 0
next_node n (k ∷ ks) = cond (is_line k) (next_node (n + 1) ks) n

-- what stands above a record: the mask of the policy that a line here belongs to, if there is one; the values to be taken; the policies
pub record SoFar : Type 0 where
  pub policy_mask : Option ℕ
  pub values : ℕ
  pub policies : ℕ

-- nothing stands above the first record
unfoldable pub no_record : SoFar
no_record = record { policy_mask = none; values = 0; policies = 0 }

-- a line's set lies inside its policy's mask; a line that follows neither a policy nor a line of one has no policy
unfoldable pub inside_policy : ℕ → Option ℕ → Bool
inside_policy mask none = false
inside_policy mask (some policy_mask) = is_set mask && inside mask policy_mask

-- record n, of this kind, keeps to the layout; `after` are the kinds of the records after it
unfoldable pub keeps_layout : ℕ → SoFar → Kind → Record → List Kind → Bool
keeps_layout n so (policy quiet turned) r after =
    is_set r.mask && eqb r.lines (if_line after (n + 1)) && eqb r.next (next_node (n + 1) after) && leb (so.policies + 1) 16
keeps_layout n so line r after =
    inside_policy r.mask so.policy_mask && eqb r.lines 0 && eqb r.next (if_line after (n + 1))
keeps_layout n so (join j) r after =
    eqb r.mask 0 && eqb r.lines 0 && eqb r.next (if_any after (n + 1)) && leb 2 so.values
-- with no policy above, every record above is an exclusion, and this is the n-th of at most 16; a record follows it
keeps_layout n so exclusion r after =
    eqb so.policies 0 && leb n 16 && is_pair r.mask && eqb r.lines 0 && eqb r.next (n + 1) && leb 1 (length after)
keeps_layout n so unknown r after = false

-- what stands above the next record: a policy adds a value and may have lines; a join takes two values and leaves one
unfoldable pub so_far_after : SoFar → Kind → Record → SoFar
so_far_after so (policy quiet turned) r = record { policy_mask = some r.mask; values = so.values + 1; policies = so.policies + 1 }
so_far_after so line r = so
so_far_after so (join j) r = record { policy_mask = none; values = so.values - 1; policies = so.policies }
so_far_after so exclusion r = record { policy_mask = none; values = so.values; policies = so.policies }
so_far_after so unknown r = so

-- the first record that breaks the layout is refused; the last, if values are left over. n records stand above these
unfoldable pub judged : ℕ → SoFar → List Record → Answer (Unit {0})
judged n so [] = require (eqb so.values 1) 10 n (result tt)
judged n so (r ∷ rest) =
    require (keeps_layout (n + 1) so (kind_of r.kind) r (kinds rest)) 10 (n + 1)
    (judged (n + 1) (so_far_after so (kind_of r.kind) r) rest)

-- the listing has words, and a multiple of four
unfoldable pub length_sound : List ℕ → Bool
length_sound ws = not (eqb (length ws) 0) && eqb (length ws % 4) 0

-- the verdict on the words handed in: sound, or refused by 9 or 10
unfoldable pub verdict : List ℕ → Answer (Unit {0})
verdict ws = require (length_sound ws) 9 0 (judged 0 no_record (records ws))
