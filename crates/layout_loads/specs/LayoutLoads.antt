-- What a builder may rely on once the matrix is laid out. Document 02, Wish 1: "Under that binding, the device's load on a pattern laid out this
-- way must never meet refusal 13."
use Rattle.std.specs.Prelude.{ℕ, ◌≤◌, ◌≡◌, ◌≢◌, Bool, true, false, ◌&&◌, ◌||◌, List, [], ◌∷◌, length, take, Float}
use Rattle.device.specs.Refusals.{done, number}
use Rattle.device.specs.declared.Mosfet1.{Mosfet1}
use Rattle.assembly.specs.Assembly.{Pattern}
use Rattle.loading.specs.Loading.{load_of}
use Rattle.loading.specs.declared.LoadKind.{LoadKind}
use Rattle.resolve.specs.Resolve.{resolve_of}
use Rattle.resolved_rows.specs.LoadResolved.{load_resolved_of}
use Rattle.cell_pattern.specs.declared.Needed.{Needed}
use Rattle.matrix_layout.specs.MatrixLayout.{is_written, Layout}
use Rattle.call_lists.specs.Calls.{Call, geometry, scaling, binding, evaluation, loading, commit, noise, reactances, accepted, after, run}

-- the pattern that a call has written, in the first entries of the three slices
unfoldable pub written_pattern : Needed → List ℕ → List ℕ → List ℕ → Pattern
written_pattern n columns offsets lengths = record { columns = take n.columns columns; offsets = take n.rows offsets; lengths = take n.rows lengths }

-- "Under that binding": no call of the list is an accepted binding
unfoldable pub binds : Call → Bool
binds (binding drain gate source bulk first) = true
binds (geometry bytes offsets lengths values list) = false
binds (scaling t) = false
binds (evaluation x transient k) = false
binds (loading kind P rhs values) = false
binds (commit x) = false
binds (noise t freq) = false
binds reactances = false

unfoldable pub binds_anew : List Call → Mosfet1 → Bool
binds_anew [] d = false
binds_anew (c ∷ calls) d = (binds c && accepted c d) || binds_anew calls (after c d)

-- No load of a device on a pattern, of either kind, whatever the slices hold, is refused by 13; none with as many values as columns by 12; none
-- with a right-hand side of as many rows by 8. So it is where the cells are looked up first and the load goes by them
pub record EveryLoadFits (d : Mosfet1) (P : Pattern) : Type 0 where
  pub never_13 : (k : LoadKind) (rhs values : List Float) → number (load_of d k P rhs values) ≢ 13
  pub never_12 : (k : LoadKind) (rhs values : List Float) → length values ≡ length P.columns → number (load_of d k P rhs values) ≢ 12
  pub never_8 : (k : LoadKind) (rhs values : List Float) → length P.offsets ≤ length rhs → number (load_of d k P rhs values) ≢ 8
  pub lookup_never_13 : number (resolve_of d P) ≢ 13
  pub lookup_never_12 : number (resolve_of d P) ≢ 12
  pub lookup_never_8 : number (resolve_of d P) ≢ 8
  pub by_cells : (w : List ℕ) → resolve_of d P ≡ done w → (k : LoadKind) (rhs values : List Float) → load_resolved_of d k w rhs values ≡ load_of d k P rhs values

-- Of every device that was laid out with room enough, after whatever calls under that binding
unfoldable pub LayoutServes : Type 0
LayoutServes =
    (b : Mosfet1) (columns offsets lengths : List ℕ) (n : Needed) (columns' offsets' lengths' : List ℕ)
    → Layout b columns offsets lengths (done n) columns' offsets' lengths'
    → is_written b (length columns) (length offsets) (length lengths) ≡ true
    → (calls : List Call) → binds_anew calls b ≡ false
    → EveryLoadFits (run calls b) (written_pattern n columns' offsets' lengths')
