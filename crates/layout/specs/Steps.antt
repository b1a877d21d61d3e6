-- What the code's own values mean, and one step of the judgement as the code takes it.
use Rattle.std.specs.Prelude.{ℕ, ◌+◌, ◌*◌, ◌-◌, ◌<◌, Bool, true, cond, ◌&&◌, List, ◌≡◌, eqb, leb, get_or, drop}
use Rattle.std.specs.Prelude.{Option as Maybe, Some, None}
use Rattle.std.proofs.Math.Option.{Option, none, some}
use Rattle.signals.specs.Sets.{is_set, is_pair}
use Rattle.layout.specs.Records
use Rattle.layout.specs.Records.{records, line_kind, kind_of, kinds}
use Rattle.layout.specs.Judgement
use Rattle.layout.specs.Judgement.{next_node, inside_policy, keeps_layout, so_far_after, judged}
use Rattle.layout.specs.declared.records.Kind.{Kind}
use Rattle.layout.specs.declared.records.Kind.TheVariants.{Line, And, Or, Policy, Exclusion, Unknown}
use Rattle.layout.specs.declared.records.Record.{Record}
use Rattle.layout.specs.declared.judging.SoFar.{SoFar}

-- a kind
abbrev pub kind_meaning : Kind → Records.Kind
kind_meaning Line = Records.Kind.line
kind_meaning And = Records.Kind.join Records.Join.and
kind_meaning Or = Records.Kind.join Records.Join.or
kind_meaning (Policy quiet turned) = Records.Kind.policy quiet turned
kind_meaning Exclusion = Records.Kind.exclusion
kind_meaning Unknown = Records.Kind.unknown

-- a record
abbrev pub record_meaning : Record → Records.Record
record_meaning r = record { kind = r.kind; mask = r.mask; lines = r.lines; next = r.next }

-- the record at index i of some words, of number i + 1
abbrev pub record_at : List ℕ → ℕ → Records.Record
record_at ws i = record { kind = get_or ws (i * 4) 0; mask = get_or ws (i * 4 + 1) 0; lines = get_or ws (i * 4 + 2) 0; next = get_or ws (i * 4 + 3) 0 }

-- the records from index i on
unfoldable pub records_from : List ℕ → ℕ → List Records.Record
records_from ws i = drop i (records ws)

-- the mask of the policy that a line belongs to, if there is one
abbrev pub owner : Maybe ℕ → Option ℕ
owner (Some mask) = some mask
owner None = none

-- what stands above a record
abbrev pub so_far_meaning : SoFar → Judgement.SoFar
so_far_meaning so = record { policy_mask = owner so.policy_mask; values = so.values; policies = so.policies }

-- a step: what stands above the next record, or nothing where the record breaks the layout
abbrev pub step_meaning : Maybe SoFar → Option Judgement.SoFar
step_meaning (Some so) = some (so_far_meaning so)
step_meaning None = none

-- one step by kind, from the numbers that the record's words must have
unfoldable pub policy_step : Records.Record → Judgement.SoFar → ℕ → ℕ → Option Judgement.SoFar
policy_step r so line node =
    cond (is_set r.mask && eqb r.lines line && eqb r.next node && leb (so.policies + 1) 16)
    (some (record { policy_mask = some r.mask; values = so.values + 1; policies = so.policies + 1 })) none

unfoldable pub line_step : Records.Record → Judgement.SoFar → ℕ → Option Judgement.SoFar
line_step r so line = cond (inside_policy r.mask so.policy_mask && eqb r.lines 0 && eqb r.next line) (some so) none

unfoldable pub join_step : Records.Record → Judgement.SoFar → ℕ → Option Judgement.SoFar
join_step r so after =
    cond (eqb r.mask 0 && eqb r.lines 0 && eqb r.next after && leb 2 so.values)
    (some (record { policy_mask = none; values = so.values - 1; policies = so.policies })) none

unfoldable pub exclusion_step : ℕ → Records.Record → Judgement.SoFar → ℕ → Option Judgement.SoFar
exclusion_step n r so after =
    cond (eqb so.policies 0 && leb n 16 && is_pair r.mask && eqb r.lines 0 && eqb r.next after && leb 1 after)
    (some (record { policy_mask = none; values = so.values; policies = so.policies })) none

-- one step over record n
unfoldable pub step_of : ℕ → Judgement.SoFar → Records.Kind → Records.Record → List Records.Kind → Option Judgement.SoFar
step_of n so k r after = cond (keeps_layout n so k r after) (some (so_far_after so k r)) none

-- one step over the record at index i
unfoldable pub step_at : List ℕ → ℕ → Judgement.SoFar → Option Judgement.SoFar
step_at ws i so = step_of (i + 1) so (kind_of (get_or ws (i * 4) 0)) (record_at ws i) (kinds (records_from ws (i + 1)))

-- the record at index i is a line, and a step over it leaves what stands above as it is, where that is a policy of this mask
abbrev pub PassedOver : List ℕ → ℕ → ℕ → Type 0
PassedOver ws i mask = (get_or ws (i * 4) 0 ≡ line_kind) × ((so : Judgement.SoFar) → so.policy_mask ≡ some mask → some so ≡ step_at ws i so)

-- a yes tells that the record at index i is passed over; a no tells nothing
abbrev pub YesPasses : List ℕ → (i mask : ℕ) → Bool → Type 0
YesPasses ws i mask passes = passes ≡ true → PassedOver ws i mask

-- the records between index i and index `end` are lines that change neither the next node nor, after a step over index i, the judgement
pub record AfterLines (ws : List ℕ) (i end : ℕ) : Type 0 where
  pub later : i < end
  pub same_node : next_node (end + 1) (kinds (records_from ws end)) ≡ next_node (i + 1 + 1) (kinds (records_from ws (i + 1)))
  pub same_judged : (so next : Judgement.SoFar) → some next ≡ step_at ws i so → judged (i + 1) next (records_from ws (i + 1)) ≡ judged end next (records_from ws end)
