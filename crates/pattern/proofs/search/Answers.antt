use lib.Seq.{slice}
use Rattle.pattern.specs.Pattern.{place_in}
use Rattle.std.specs.Prelude.{Some}
use Rattle.pattern.proofs.Places.{places_found, bracket_none, bracket_start, bracket_up, bracket_down}
use Rattle.pattern.proofs.search.Goals as goal
-- `pattern::search`: the column stands neither before lo nor from hi on.
use Rattle.std.proofs.Common.{◌≡◌, ℕ, ◌+◌, ◌-◌, ◌/◌, get_or, sym, ◌∙◌, subst, arith}

pub loop-lo-init : goal.loop-lo-init
loop-lo-init c = bracket_start _ _ _ _ (omega arith)

pub overflow_sub-mid : goal.overflow_sub-mid
overflow_sub-mid c = omega arith

pub overflow_add-mid : goal.overflow_add-mid
overflow_add-mid c = omega (arith, c.requires)

pub offset_bounds-columns-mid : goal.offset_bounds-columns-mid
offset_bounds-columns-mid c = omega (arith, c.requires)

pub bounds-columns-mid : goal.bounds-columns-mid
bounds-columns-mid c = omega (arith, c.requires)

pub returns-then-here-column : goal.returns-then-here-column
returns-then-here-column c =
    let e : get_or c.args.columns.now (c.loop-lo.lo + (c.loop-lo.hi - c.loop-lo.lo) / 2) 0 ≡ c.args.column = sym c.wide-here.ensures ∙ c.if-here-column.true in
    subst (λ (x : ℕ). Some (c.loop-lo.lo + (c.loop-lo.hi - c.loop-lo.lo) / 2) ≡ place_in c.args.from (slice c.args.from c.args.to c.args.columns.now) x) e
    (sym (places_found c.args.columns.now c.args.from c.args.to c.requires.1.0 c.requires.1.1 (c.loop-lo.lo + (c.loop-lo.hi - c.loop-lo.lo) / 2) (omega arith) (omega arith)))

pub overflow_add-lo : goal.overflow_add-lo
overflow_add-lo c = omega (arith, c.requires)

pub loop-lo-smaller-then-here-column-2 : goal.loop-lo-smaller-then-here-column-2
loop-lo-smaller-then-here-column-2 c = omega arith

pub loop-lo-preserved-then-here-column-2 : goal.loop-lo-preserved-then-here-column-2
loop-lo-preserved-then-here-column-2 c =
    bracket_up c.args.columns.now c.args.from c.args.to c.args.column c.loop-lo.lo c.loop-lo.hi c.requires.1.0 c.requires.1.1 c.loop-lo.invariant (c.loop-lo.lo + (c.loop-lo.hi - c.loop-lo.lo) / 2) (omega arith) (omega arith) (omega (arith, c.wide-here.ensures))

pub loop-lo-smaller : goal.loop-lo-smaller
loop-lo-smaller c = omega arith

pub loop-lo-preserved : goal.loop-lo-preserved
loop-lo-preserved c =
    bracket_down c.args.columns.now c.args.from c.args.to c.args.column c.loop-lo.lo c.loop-lo.hi c.requires.1.0 c.requires.1.1 c.loop-lo.invariant (c.loop-lo.lo + (c.loop-lo.hi - c.loop-lo.lo) / 2) (omega arith) (omega arith) (omega (arith, c.wide-here.ensures))

pub returns : goal.returns
returns c =
    sym (bracket_none c.args.columns.now c.args.from c.args.to c.args.column c.loop-lo.lo c.loop-lo.hi c.requires.1.0 c.requires.1.1 c.loop-lo.invariant c.loop-lo-test.false)
