-- The rows in their order, and a load's outcome from what its parts answered.
use mathlib.Core.Path.{◌≡◌, refl, sym, ap, ◌∙◌, subst}
use mathlib.Core.Bool.{Bool, true, false, cond, not, ◌&&◌, ◌||◌}
use mathlib.Core.List.{List}
use Prim.Native.Nat.{ℕ, ◌≤◌}
use native.Mathlib.Omega.{arith}
use lib.ListN.{length}
use lib.Dec.{T}
use lib.Ieee.{Float}
use borrow.Author.Tests.{eqb-true, eq-eqb, ne_eqb, le-ltb, ltb-false, leb-false, lt-leb}
use Rattle.pattern.specs.Pattern.{well_formed, pairs_fit}
use Rattle.pattern.proofs.Rows.{and_left}
use Rattle.device.specs.Nodes.{node_beyond, any_node_beyond}
use Rattle.device.specs.Refusals.{number_of, Outcome, done, refused}
use Rattle.device.specs.declared.Refusal.{Refusal}
use Rattle.device.specs.declared.Refusal.TheVariants as Refused
use Rattle.device.specs.declared.Refusal.TheVariants.{KeyPairs, KeyByte, UnknownKeys, KeyValue, Oxide, Temperature, Potential, Node, Voltage, Step, MissingCell, Run, Tag}
use Rattle.device.specs.Stages.{stage_number, unbound, unevaluated}
use Rattle.device.specs.declared.NodeId.{NodeId}
use Rattle.device.specs.declared.NodeId.TheVariants.{Ground, At}
use Rattle.device.specs.declared.Stage.{Stage}
use Rattle.device.specs.declared.Terminals.{Terminals}
use Rattle.device.specs.declared.Mosfet1.{Mosfet1}
use Rattle.stamps.specs.Stamps.{jac_values_of, residual_of}
use Rattle.stamps.specs.declared.Residual.{Residual}
use Rattle.stamps.specs.declared.ChargeBranches.{ChargeBranches}
use Rattle.places.specs.Places.{skipped_number, index_of, node_at, nodes_of, terminals_at}
use Rattle.assembly.specs.Assembly.{Pattern, matrix_contributions, source_contributions, all_there, Assembled}
use Rattle.loading.specs.Loading.{nodes_outside, alpha_outside, branches_of, jacobian_contributions, rhs_contributions, load_of, if_done, Loaded, early_row}
use Rattle.loading.specs.declared.LoadKind.{LoadKind}

-- no refusal has the number 0
pub never_0 : (r : Refusal) → number_of r ≡ 0 → ⊥
never_0 KeyPairs e = omega arith
never_0 KeyByte e = omega arith
never_0 UnknownKeys e = omega arith
never_0 KeyValue e = omega arith
never_0 Oxide e = omega arith
never_0 Temperature e = omega arith
never_0 Potential e = omega arith
never_0 Node e = omega arith
never_0 Voltage e = omega arith
never_0 Refused.Stage e = omega arith
never_0 Step e = omega arith
never_0 Refused.Pattern e = omega arith
never_0 MissingCell e = omega arith
never_0 Run e = omega arith
never_0 Tag e = omega arith

-- a row that applies is the answer
pub early_refuses : (a b c d : Bool) (rest : Outcome Unit) → (early_row a b c d ≡ 0 → ⊥)
    → refused (early_row a b c d) ≡ cond a (refused 8) (cond b (refused 10) (cond c (refused 11) (cond d (refused 12) rest)))
unfolding early_row
early_refuses true b c d rest h = refl
early_refuses false true c d rest h = refl
early_refuses false false true d rest h = refl
early_refuses false false false true rest h = refl
early_refuses false false false false rest h = absurd (h refl)

-- where none applies, the rest is
pub early_passes : (a b c d : Bool) (rest : Outcome Unit) → early_row a b c d ≡ 0
    → cond a (refused 8) (cond b (refused 10) (cond c (refused 11) (cond d (refused 12) rest))) ≡ rest
unfolding early_row
early_passes true b c d rest e = absurd (omega arith)
early_passes false true c d rest e = absurd (omega arith)
early_passes false false true d rest e = absurd (omega arith)
early_passes false false false true rest e = absurd (omega arith)
early_passes false false false false rest e = refl

pub early_well : (a b c w : Bool) → early_row a b c (not w) ≡ 0 → w ≡ true
unfolding early_row
early_well true b c w e = absurd (omega arith)
early_well false true c w e = absurd (omega arith)
early_well false false true w e = absurd (omega arith)
early_well false false false false e = absurd (omega arith)
early_well false false false true e = refl

early_row8 : (a b c d : Bool) → early_row a b c d ≡ 0 → a ≡ false
unfolding early_row
early_row8 true b c d e = absurd (omega arith)
early_row8 false b c d e = refl

early_row10 : (a b c d : Bool) → early_row a b c d ≡ 0 → b ≡ false
unfolding early_row
early_row10 true b c d e = absurd (omega arith)
early_row10 false true c d e = absurd (omega arith)
early_row10 false false c d e = refl

-- a node that is not beyond a smaller number is not beyond a larger one
node_mono : (node : NodeId) (m n : ℕ) → m ≤ n → node_beyond m node ≡ false → node_beyond n node ≡ false
node_mono Ground m n h e = refl
node_mono (At i) m n h e = lt-leb n i (omega (arith, leb-false m i e))

neither : (a b : Bool) → (a || b) ≡ false → (a ≡ false) × (b ≡ false)
neither true b e = absurd (subst T e tt)
neither false b e = (refl, e)

or_six : (a b c d e f : Bool) → a ≡ false → b ≡ false → c ≡ false → d ≡ false → e ≡ false → f ≡ false → (a || b || c || d || e || f) ≡ false
or_six a b c d e f p q r s t u = rw (p, q, r, s, t, u)

-- no node is beyond, node by node
record Below (t : Terminals) (n : ℕ) : Type 0 where
  drain_ext : node_beyond n t.drain_ext ≡ false
  source_ext : node_beyond n t.source_ext ≡ false
  drain : node_beyond n t.drain ≡ false
  gate : node_beyond n t.gate ≡ false
  source : node_beyond n t.source ≡ false
  bulk : node_beyond n t.bulk ≡ false

below_each : (t : Terminals) (n : ℕ) → any_node_beyond n t ≡ false → Below t n
unfolding any_node_beyond
below_each t n e =
    let x1 = node_beyond n t.drain_ext in
    let x2 = node_beyond n t.source_ext in
    let x3 = node_beyond n t.drain in
    let x4 = node_beyond n t.gate in
    let x5 = node_beyond n t.source in
    let x6 = node_beyond n t.bulk in
    let e6 = neither (x1 || x2 || x3 || x4 || x5) x6 e in
    let e5 = neither (x1 || x2 || x3 || x4) x5 e6.0 in
    let e4 = neither (x1 || x2 || x3) x4 e5.0 in
    let e3 = neither (x1 || x2) x3 e4.0 in
    let e2 = neither x1 x2 e3.0 in
    record { drain_ext = e2.0; source_ext = e2.1; drain = e3.1; gate = e4.1; source = e5.1; bulk = e6.1 }

all_six : (t : Terminals) (m n : ℕ) → m ≤ n → Below t m → any_node_beyond n t ≡ false
unfolding any_node_beyond
all_six t m n h b =
    or_six (node_beyond n t.drain_ext) (node_beyond n t.source_ext) (node_beyond n t.drain) (node_beyond n t.gate) (node_beyond n t.source) (node_beyond n t.bulk)
    (node_mono t.drain_ext m n h b.drain_ext) (node_mono t.source_ext m n h b.source_ext) (node_mono t.drain m n h b.drain)
    (node_mono t.gate m n h b.gate) (node_mono t.source m n h b.source) (node_mono t.bulk m n h b.bulk)

nodes_mono : (t : Terminals) (m n : ℕ) → m ≤ n → any_node_beyond m t ≡ false → any_node_beyond n t ≡ false
nodes_mono t m n h e = all_six t m n h (below_each t m e)

or_first : (x y : Bool) → (x ≡ false → y ≡ false) → x ≡ (x || y)
or_first true y h = refl
or_first false y h = sym (h refl)

or_second : (x y : Bool) → (y ≡ false → x ≡ false) → y ≡ (x || y)
or_second false y h = refl
or_second true true h = refl
or_second true false h = sym (h refl)

or_same : (a : Bool) → (a || a) ≡ a
or_same true = refl
or_same false = refl

-- row 8 by one length
pub outside_same : (stage : Stage) (t : Terminals) (n : ℕ) → nodes_outside stage t n n ≡ (not (unbound stage) && any_node_beyond n t)
unfolding nodes_outside
outside_same stage t n = ap (λ (b : Bool). not (unbound stage) && b) (or_same (any_node_beyond n t))

-- row 8 by the smaller of the two lengths
module _ (stage : Stage) (t : Terminals) (len rows : ℕ) (bound : unbound stage ≡ false) where
  pub outside_len : len ≤ rows → any_node_beyond len t ≡ nodes_outside stage t len rows
  unfolding nodes_outside
  outside_len h = rw bound (or_first (any_node_beyond len t) (any_node_beyond rows t) (nodes_mono t len rows h))

  pub outside_rows : rows ≤ len → any_node_beyond rows t ≡ nodes_outside stage t len rows
  unfolding nodes_outside
  outside_rows h = rw bound (or_second (any_node_beyond len t) (any_node_beyond rows t) (nodes_mono t rows len h))

-- a node that row 8 let pass is that of its index
index_back : (node : NodeId) (n : ℕ) → n ≤ skipped_number → node_beyond n node ≡ false → node_at (index_of node) ≡ node
unfolding node_at index_of
index_back Ground n room e = ap (λ (b : Bool). cond b Ground (At skipped_number)) (eq-eqb skipped_number skipped_number refl)
index_back (At i) n room e = ap (λ (b : Bool). cond b Ground (At i)) (ne_eqb i skipped_number (λ q. omega (arith, leb-false n i e)))

terminals_back : (t : Terminals) (n : ℕ) → n ≤ skipped_number → any_node_beyond n t ≡ false → terminals_at (nodes_of t) ≡ t
unfolding terminals_at nodes_of
terminals_back t n room e =
    let b = below_each t n e in λ i. record {
      drain_ext = index_back t.drain_ext n room b.drain_ext i;
      source_ext = index_back t.source_ext n room b.source_ext i;
      drain = index_back t.drain n room b.drain i;
      gate = index_back t.gate n room b.gate i;
      source = index_back t.source n room b.source i;
      bulk = index_back t.bulk n room b.bulk i;
    }

evaluated_bound : (stage : Stage) → unevaluated stage ≡ false → unbound stage ≡ false
unfolding unevaluated unbound
evaluated_bound stage e =
    le-ltb (stage_number stage) (stage_number Stage.Bound) (omega (arith, ltb-false (stage_number stage) (stage_number Stage.Evaluated) e))

both_below : (b x y : Bool) → b ≡ false → (not b && (x || y)) ≡ false → x ≡ false
both_below true x y e h = absurd (subst T e tt)
both_below false x y e h = (neither x y h).0

pub early_terminals : (stage : Stage) (t : Terminals) (len rows : ℕ) (c w : Bool) → len ≤ skipped_number
    → early_row (nodes_outside stage t len rows) (unevaluated stage) c w ≡ 0 → terminals_at (nodes_of t) ≡ t
unfolding nodes_outside
early_terminals stage t len rows c w room e =
    terminals_back t len room
    (both_below (unbound stage) (any_node_beyond len t) (any_node_beyond rows t)
    (evaluated_bound stage (early_row10 (nodes_outside stage t len rows) (unevaluated stage) c w e))
    (early_row8 (nodes_outside stage t len rows) (unevaluated stage) c w e))

counted : (columns offsets lengths : List ℕ) (values : ℕ) → well_formed columns offsets lengths values ≡ true → values ≡ length columns
unfolding well_formed
counted columns offsets lengths values e = eqb-true values (length columns) (and_left _ (pairs_fit columns 0 offsets lengths) e)

-- a pattern that is well formed for as many values as there are
pub well_columns : (columns offsets lengths : List ℕ) (values : ℕ) → well_formed columns offsets lengths values ≡ true
    → well_formed columns offsets lengths (length columns) ≡ true
well_columns columns offsets lengths values e =
    subst (λ (n : ℕ). well_formed columns offsets lengths n ≡ true) (counted columns offsets lengths values e) e

module _ (d : Mosfet1) (k : LoadKind) (P : Pattern) (rhs values : List Float) where
  abbrev row8 : Bool
  row8 = nodes_outside d.stage d.terminals (length rhs) (length P.offsets)

  abbrev row12 : Bool
  row12 = not (well_formed P.columns P.offsets P.lengths (length values))

  abbrev early : ℕ
  early = early_row row8 (unevaluated d.stage) (alpha_outside d.disc k) row12

  pub refused_early : (row : ℕ) → row ≡ early → (row ≡ 0 → ⊥) → Loaded d k P rhs values (refused row) rhs values
  unfolding load_of if_done
  refused_early row e h = record {
    answer = ap refused e ∙ early_refuses row8 (unevaluated d.stage) (alpha_outside d.disc k) row12 _ (λ z. h (e ∙ z));
    side = refl;
    matrix = refl;
  }

  late : early ≡ 0 → load_of d k P rhs values ≡ cond (not (all_there P (jacobian_contributions d k))) (refused 13) (done tt)
  unfolding load_of
  late e = early_passes row8 (unevaluated d.stage) (alpha_outside d.disc k) row12 _ e

  -- from the contributions of the device's own values
  module _ (jacobian : List Float) (residual : Residual) (charge : ChargeBranches) (ej : jacobian ≡ jac_values_of d) (er : residual ≡ residual_of d) (eb : charge ≡ branches_of d k) (passed : early ≡ 0) where
    own : (r : Bool) (values' rhs' : List Float) → Assembled P (matrix_contributions d.terminals jacobian charge) (source_contributions d.terminals residual charge) values rhs r values' rhs'
        → Assembled P (jacobian_contributions d k) (rhs_contributions d k) values rhs r values' rhs'
    unfolding jacobian_contributions rhs_contributions
    own r values' rhs' a = rw (← ej, ← er, ← eb) a

    pub refused_late : (r : Bool) (values' rhs' : List Float) → r ≡ false
        → Assembled P (matrix_contributions d.terminals jacobian charge) (source_contributions d.terminals residual charge) values rhs r values' rhs'
        → Loaded d k P rhs values (refused 13) rhs' values'
    unfolding if_done
    refused_late r values' rhs' e a =
        let o = own r values' rhs' a in
        let lacks : all_there P (jacobian_contributions d k) ≡ false = sym o.answer ∙ e in
        record {
          answer = sym (late passed ∙ rw lacks);
          side = o.side ∙ rw lacks;
          matrix = o.matrix ∙ rw lacks;
        }

    pub accepted_late : (r : Bool) (values' rhs' : List Float) → r ≡ true
        → Assembled P (matrix_contributions d.terminals jacobian charge) (source_contributions d.terminals residual charge) values rhs r values' rhs'
        → Loaded d k P rhs values (done tt) rhs' values'
    unfolding if_done
    accepted_late r values' rhs' e a =
        let o = own r values' rhs' a in
        let there : all_there P (jacobian_contributions d k) ≡ true = sym o.answer ∙ e in
        record {
          answer = sym (late passed ∙ rw there);
          side = o.side ∙ rw there;
          matrix = o.matrix ∙ rw there;
        }
