-- An accepted card leaves every parameter in its range, and an accepted geometry every size.
use mathlib.Core.Path.{◌≡◌, refl, sym, ap, ◌∙◌}
use mathlib.Core.Bool.{Bool, true, false, cond, ◌||◌}
use mathlib.Core.List.{List, [], ◌∷◌}
use Prim.Native.Nat.{ℕ}
use native.Mathlib.Omega.{arith}
use borrow.Author.Tests.{eqb-true}
use lib.Dec.{eqb}
use lib.Ieee.{Float, lt, eq, le, add, sub, sum, round, units, neg, of_bits}
use lib.ListN.{get_or}
use Rattle.std.specs.Prelude.{Option, unwrap_or}
use Rattle.exact.specs.Float64.{+0, +1}
use Rattle.temperature.specs.Temperature.{kelvin_of}
use Rattle.temperature.specs.declared.Celsius.{Celsius}
use Rattle.device.specs.Limits.{outside_temperatures}
use Rattle.keys.specs.Names.{meaning_of}
use Rattle.keys.specs.Picks.{key_number, is_set, pick, pick_option}
use Rattle.keys.specs.Ranges.{range_of, outside_range, outside_of, tnom_outside}
use Rattle.keys.specs.declared.Key.{Key}
use Rattle.keys.specs.declared.Key.TheVariants.{Vto, Kp, Uo, Is, Js, Lambda, Gamma, Phi, Rd, Rs, Rsh, Kf, Af, Cgso, Cgdo, Cgbo, Cox, Tox, Cj, Cjsw, Pb, Mj, Mjsw, Fc, W, L, Nrd, Nrs, As, Ad, Ps, Pd}
use Rattle.keys.specs.declared.Meaning.{Meaning}
use Rattle.keys.specs.declared.Meaning.TheVariants.{Sets, Tnom, Unread, Unknown}
use Rattle.keys.specs.declared.Table.TheVariants as Table
use Rattle.entries.specs.Entries.{Entry, settings_of, any_outside, any_tnom_outside}
use Rattle.card.specs.Card.{pick_cox, pick_tnom, assigned, parameters_of, default_vto, defaults_of}
use Rattle.card.specs.declared.Parameters.{Parameters}
use Rattle.geometry.specs.Geometry.{sizes_of, fresh_sizes}
use Rattle.geometry.specs.Geometry as Geometry
use Rattle.geometry.specs.declared.Sizes.{Sizes}
use Rattle.accepted.specs.Bounds.{InRange, OxideFrom, given, thickness, ParametersInRange, SizesInRange}

-- ---- keys by their numbers

abbrev all_keys : List Key
all_keys = Vto ∷ Kp ∷ Uo ∷ Is ∷ Js ∷ Lambda ∷ Gamma ∷ Phi ∷ Rd ∷ Rs ∷ Rsh ∷ Kf ∷ Af ∷ Cgso ∷ Cgdo ∷ Cgbo ∷ Cox ∷ Tox ∷ Cj ∷ Cjsw ∷ Pb ∷ Mj ∷ Mjsw ∷ Fc ∷ W ∷ L ∷ Nrd ∷ Nrs ∷ As ∷ Ad ∷ Ps ∷ Pd ∷ []

found : (k : Key) → get_or all_keys (key_number k) Vto ≡ k
found Vto = refl
found Kp = refl
found Uo = refl
found Is = refl
found Js = refl
found Lambda = refl
found Gamma = refl
found Phi = refl
found Rd = refl
found Rs = refl
found Rsh = refl
found Kf = refl
found Af = refl
found Cgso = refl
found Cgdo = refl
found Cgbo = refl
found Cox = refl
found Tox = refl
found Cj = refl
found Cjsw = refl
found Pb = refl
found Mj = refl
found Mjsw = refl
found Fc = refl
found W = refl
found L = refl
found Nrd = refl
found Nrs = refl
found As = refl
found Ad = refl
found Ps = refl
found Pd = refl

same_key : (k j : Key) → eqb (key_number k) (key_number j) ≡ true → k ≡ j
same_key k j t =
    sym (found k) ∙ ap (λ (n : ℕ). get_or all_keys n Vto) (eqb-true (key_number k) (key_number j) t) ∙ found j

no : {A : Type 0} → false ≡ true → A
no e = let z : ◌≡◌ {A = ℕ} 0 1 = cc in absurd (omega arith)

-- a key that sets k and whose value is not refused has a value in k's range
set_in_range : (k : Key) (m : Meaning) (v : Float) → is_set k m ≡ true → outside_of m v ≡ false → InRange k v
set_in_range k (Sets j) v t o = record { passes = ap (λ (x : Key). outside_range (range_of x) v) (same_key k j t) ∙ o }
set_in_range k Tnom v t o = no t
set_in_range k Unread v t o = no t
set_in_range k Unknown v t o = no t

cases : {A : Type 0} (b : Bool) {x y : A} (P : A → Type 0) → (b ≡ true → P x) → P y → P (cond b x y)
cases true P f p = f refl
cases false P f p = p

pick_in_range : {k : Key} {old : Float} (m : Meaning) (v : Float) → InRange k old → outside_of m v ≡ false → InRange k (pick k old m v)
pick_in_range {k} m v h o = cases (is_set k m) (InRange k) (λ t. set_in_range k m v t o) h

option_in_range : {k : Key} (old : Option Float) (m : Meaning) (v : Float) → InRange k (unwrap_or old +0) → outside_of m v ≡ false → InRange k (unwrap_or (pick_option k old m v) +0)
option_in_range {k} old m v h o = cases (is_set k m) (λ (x : Option Float). InRange k (unwrap_or x +0)) (λ t. set_in_range k m v t o) h

cox_in_range : {old : Float} (m : Meaning) (v : Float) → OxideFrom old → outside_of m v ≡ false → OxideFrom (pick_cox old m v)
cox_in_range m v h o =
    cases (is_set Cox m) OxideFrom (λ t. given (set_in_range Cox m v t o)) (cases (is_set Tox m) OxideFrom (λ t. thickness (set_in_range Tox m v t o)) h)

tnom_in_range : (old : Celsius) (m : Meaning) (v : Float) → outside_temperatures (kelvin_of old) ≡ false → tnom_outside m v ≡ false → outside_temperatures (kelvin_of (pick_tnom old m v)) ≡ false
tnom_in_range old (Sets k) v h o = h
tnom_in_range old Tnom v h o = o
tnom_in_range old Unread v h o = h
tnom_in_range old Unknown v h o = h

-- ---- one key more, and all keys

neither : (a b : Bool) → (a || b) ≡ false → (a ≡ false) × (b ≡ false)
neither true b t = no (sym t)
neither false b t = (refl, t)

assigned_in_range : (p : Parameters) (m : Meaning) (v : Float) → ParametersInRange p → outside_of m v ≡ false → tnom_outside m v ≡ false → ParametersInRange (assigned p m v)
assigned_in_range p m v h o t =
    record {
      vto = pick_in_range m v h.vto o;
      kp = option_in_range p.kp m v h.kp o;
      uo = pick_in_range m v h.uo o;
      is_bulk = pick_in_range m v h.is_bulk o;
      js = pick_in_range m v h.js o;
      lambda = pick_in_range m v h.lambda o;
      gamma = pick_in_range m v h.gamma o;
      phi = pick_in_range m v h.phi o;
      rd = option_in_range p.rd m v h.rd o;
      rs = option_in_range p.rs m v h.rs o;
      rsh = pick_in_range m v h.rsh o;
      kf = pick_in_range m v h.kf o;
      af = pick_in_range m v h.af o;
      cgso = pick_in_range m v h.cgso o;
      cgdo = pick_in_range m v h.cgdo o;
      cgbo = pick_in_range m v h.cgbo o;
      cj = pick_in_range m v h.cj o;
      cjsw = pick_in_range m v h.cjsw o;
      pb = pick_in_range m v h.pb o;
      mj = pick_in_range m v h.mj o;
      mjsw = pick_in_range m v h.mjsw o;
      fc = pick_in_range m v h.fc o;
      cox = cox_in_range m v h.cox o;
      tnom = tnom_in_range p.tnom m v h.tnom t;
    }

keys_in_range : (p : Parameters) (es : List Entry) → ParametersInRange p → any_outside Table.Card es ≡ false → any_tnom_outside Table.Card es ≡ false → ParametersInRange (parameters_of p es)
unfolding parameters_of settings_of any_outside any_tnom_outside
keys_in_range p [] h o t = h
keys_in_range p (e ∷ es) h o t =
    let u = neither (outside_of (meaning_of Table.Card e.key) e.value) _ o in
    let w = neither (tnom_outside (meaning_of Table.Card e.key) e.value) _ t in
    keys_in_range (assigned p (meaning_of Table.Card e.key) e.value) es (assigned_in_range p (meaning_of Table.Card e.key) e.value h u.0 w.0) u.1 w.1

-- ---- the defaults

vto_default : (is_pmos : Bool) → outside_range (range_of Vto) (default_vto is_pmos) ≡ false
unfolding lt eq le of_bits neg
vto_default true = refl
vto_default false = refl

default : {k : Key} {x : Float} → outside_range (range_of k) x ≡ false → InRange k x
default e = record { passes = e }

defaults_in_range : (is_pmos : Bool) → ParametersInRange (defaults_of is_pmos)
unfolding lt eq le of_bits add sub sum neg round units
defaults_in_range is_pmos =
    record {
      vto = default (vto_default is_pmos);
      kp = default refl;
      uo = default refl;
      is_bulk = default refl;
      js = default refl;
      lambda = default refl;
      gamma = default refl;
      phi = default refl;
      rd = default refl;
      rs = default refl;
      rsh = default refl;
      kf = default refl;
      af = default refl;
      cgso = default refl;
      cgdo = default refl;
      cgbo = default refl;
      cj = default refl;
      cjsw = default refl;
      pb = default refl;
      mj = default refl;
      mjsw = default refl;
      fc = default refl;
      cox = given (default refl);
      tnom = refl;
    }

-- a card that rows 4 and 6 let pass leaves every parameter in its range
pub card_in_range : (is_pmos : Bool) (es : List Entry) → any_outside Table.Card es ≡ false → any_tnom_outside Table.Card es ≡ false → ParametersInRange (parameters_of (defaults_of is_pmos) es)
card_in_range is_pmos es o t = keys_in_range (defaults_of is_pmos) es (defaults_in_range is_pmos) o t

-- ---- sizes

sizes_assigned : (s : Sizes) (m : Meaning) (v : Float) → SizesInRange s → outside_of m v ≡ false → SizesInRange (Geometry.assigned s m v)
sizes_assigned s m v h o =
    record {
      w = pick_in_range m v h.w o;
      l = pick_in_range m v h.l o;
      nrd = pick_in_range m v h.nrd o;
      nrs = pick_in_range m v h.nrs o;
      as_ = pick_in_range m v h.as_ o;
      ad = pick_in_range m v h.ad o;
      ps = pick_in_range m v h.ps o;
      pd = pick_in_range m v h.pd o;
    }

sizes_in_range : (s : Sizes) (es : List Entry) → SizesInRange s → any_outside Table.Geometry es ≡ false → SizesInRange (sizes_of s es)
unfolding sizes_of settings_of any_outside
sizes_in_range s [] h o = h
sizes_in_range s (e ∷ es) h o =
    let u = neither (outside_of (meaning_of Table.Geometry e.key) e.value) _ o in
    sizes_in_range (Geometry.assigned s (meaning_of Table.Geometry e.key) e.value) es (sizes_assigned s (meaning_of Table.Geometry e.key) e.value h u.0) u.1

fresh_in_range : (nrd nrs : Float) → InRange Nrd nrd → InRange Nrs nrs → SizesInRange (fresh_sizes nrd nrs)
unfolding lt eq le of_bits
fresh_in_range nrd nrs hd hs =
    record { w = default refl; l = default refl; nrd = hd; nrs = hs; as_ = default refl; ad = default refl; ps = default refl; pd = default refl }

-- a geometry that row 4 lets pass, on a device whose squares are in range, leaves every size in its range
pub geometry_in_range : (nrd nrs : Float) (es : List Entry) → InRange Nrd nrd → InRange Nrs nrs → any_outside Table.Geometry es ≡ false → SizesInRange (sizes_of (fresh_sizes nrd nrs) es)
geometry_in_range nrd nrs es hd hs o = sizes_in_range (fresh_sizes nrd nrs) es (fresh_in_range nrd nrs hd hs) o

-- the squares of a device that no geometry call has seen are 1
pub one_square : (InRange Nrd (+1)) × (InRange Nrs (+1))
unfolding lt eq le of_bits
one_square = (default refl, default refl)
