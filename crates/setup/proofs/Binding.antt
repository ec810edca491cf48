-- What the binding's proofs share: a resistance adds at most one node, and behind a small inner drain the next number fits.
use mathlib.Core.Path.{◌≡◌, refl, ◌∙◌}
use mathlib.Core.Bool.{Bool, true, false, cond, ◌||◌, false≢true}
use Prim.Native.Nat.{ℕ, ◌+◌, ◌<◌, ◌≤◌, ◌^◌}
use native.Mathlib.Omega.{arith}
use borrow.Author.Tests.{leb-false}
use lib.Ieee.{Float}
use Rattle.exact.specs.Float64.{◌>f◌, +0}
use Rattle.device.specs.Nodes.{node_beyond, any_node_beyond}
use Rattle.device.specs.Refusals.{done, refused}
use Rattle.device.specs.declared.NodeId.{NodeId}
use Rattle.device.specs.declared.NodeId.TheVariants.{At}
use Rattle.device.specs.declared.Terminals.{Terminals}
use Rattle.device.specs.declared.Mosfet1.{Mosfet1}
use Rattle.device.proofs.Branches.{cond_yes, cond_no}
use Rattle.setup.specs.Binding.{extra, inner_drain, bound_terminals, node_limit, outside_binding, bound_to, binding_of}

at_most_one : (b : Bool) → cond b 1 0 ≤ 1
at_most_one true = omega arith
at_most_one false = omega arith

pub extra_small : (resistance : Float) → extra resistance ≤ 1
extra_small resistance = at_most_one (resistance >f +0)

fits_by : (b : Bool) (drain : NodeId) (first : ℕ) → first < 2 ^ 64 → node_beyond node_limit (cond b (At first) drain) ≡ false → first + cond b 1 0 < 2 ^ 64
fits_by true drain first h e = omega (arith, leb-false node_limit first e)
fits_by false drain first h e = omega arith

pub next_fits : (rd : Float) (drain : NodeId) (first : ℕ) → first < 2 ^ 64 → node_beyond node_limit (inner_drain rd drain first) ≡ false → first + extra rd < 2 ^ 64
next_fits rd drain first h e = fits_by (rd >f +0) drain first h e

-- an inner drain beyond is a node beyond
third : (a b c d e f : Bool) → c ≡ true → (a || b || c || d || e || f) ≡ true
third true b c d e f h = refl
third false true c d e f h = refl
third false false true d e f h = refl
third false false false d e f h = absurd (false≢true h)

pub drain_beyond : (t : Terminals) → node_beyond node_limit t.drain ≡ true → any_node_beyond node_limit t ≡ true
unfolding any_node_beyond
drain_beyond t h = third (node_beyond node_limit t.drain_ext) (node_beyond node_limit t.source_ext) (node_beyond node_limit t.drain) (node_beyond node_limit t.gate) (node_beyond node_limit t.source) (node_beyond node_limit t.bulk) h

-- the binding call's answers
module _ (d : Mosfet1) (drain gate source bulk : NodeId) (first : ℕ) where
  pub refused_8 : any_node_beyond node_limit (bound_terminals d drain gate source bulk first) ≡ true → refused 8 ≡ binding_of d drain gate source bulk first
  unfolding binding_of
  refused_8 n = cond_yes _ _ n

  pub refused_10 : any_node_beyond node_limit (bound_terminals d drain gate source bulk first) ≡ false → outside_binding d.stage ≡ true → refused 10 ≡ binding_of d drain gate source bulk first
  unfolding binding_of
  refused_10 n s = cond_yes _ _ s ∙ cond_no _ _ n

  pub accepted : any_node_beyond node_limit (bound_terminals d drain gate source bulk first) ≡ false → outside_binding d.stage ≡ false → done (bound_to d (bound_terminals d drain gate source bulk first)) ≡ binding_of d drain gate source bulk first
  unfolding binding_of
  accepted n s = cond_no _ _ s ∙ cond_no _ _ n
