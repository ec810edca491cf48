-- The geometry call: an instance's sizes after all keys, and what follows from them and the card.
use Rattle.std.specs.Prelude.{ℕ, Bool, true, false, cond, not, ◌&&◌, List, [], ◌∷◌, ◌++◌, Float, length, Option, Some, None}
use Rattle.std.specs.Float.{nan, inf, fin, binary64}
use Rattle.std.specs.Float.Ieee.{of_bits}
use Rattle.exact.specs.Float64.{◌⊗◌, ◌⊘◌, ◌>f◌, +0}
use Rattle.device.specs.Refusals.{Row, unless, Outcome, done, refused, ◌when◌}
use Rattle.device.specs.Stages.{before}
use Rattle.device.specs.declared.Card.{Card}
use Rattle.device.specs.declared.Geometry.{Geometry}
use Rattle.device.specs.declared.Mosfet1.{Mosfet1}
use Rattle.device.specs.declared.Stage.{Stage}
use Rattle.keys.specs.Picks.{pick}
use Rattle.keys.specs.declared.Key.TheVariants.{W, L, Nrd, Nrs, As, Ad, Ps, Pd}
use Rattle.keys.specs.declared.Meaning.{Meaning}
use Rattle.keys.specs.declared.Table.TheVariants as Table
use Rattle.entries.specs.Entries.{Entry, entries_of, unknown_count, key_rows, list_after, settings_of}
use Rattle.entries.specs.declared.Keyed.{Keyed}
use Rattle.geometry.specs.declared.Sizes.{Sizes}

-- ---- sizes

-- 1e-4 m
abbrev pub default_size : Float
default_size = of_bits binary64 0x3f1a_36e2_eb1c_432d

-- a call starts anew: W, L, areas and perimeters are reset, nrd and nrs kept
abbrev pub fresh_sizes : Float → Float → Sizes
fresh_sizes nrd nrs =
    record { w = default_size; l = default_size; nrd = nrd; nrs = nrs; as_ = +0; ad = +0; ps = +0; pd = +0 }

-- the sizes after one key more
abbrev pub assigned : Sizes → Meaning → Float → Sizes
assigned s m v =
    record {
      w = pick W s.w m v;
      l = pick L s.l m v;
      nrd = pick Nrd s.nrd m v;
      nrs = pick Nrs s.nrs m v;
      as_ = pick As s.as_ m v;
      ad = pick Ad s.ad m v;
      ps = pick Ps s.ps m v;
      pd = pick Pd s.pd m v;
    }

-- a later key overrides
unfoldable pub sizes_of : Sizes → List Entry → Sizes
sizes_of s es = settings_of assigned Table.Geometry s es

-- ---- what follows from them

-- neither an infinity nor a NaN
abbrev pub finite : Float → Bool
finite nan = false
finite (inf s) = false
finite (fin s m e) = true

-- row 5, `validate`: kf above 0 and W·L·COX, in this order, not finite or not above 0
abbrev pub oxide_missing : Float → Float → Float → Float → Bool
oxide_missing kf w l cox = (kf >f +0) && not (finite (w ⊗ l ⊗ cox) && (w ⊗ l ⊗ cox >f +0))

-- a given resistance wins over the sheet's
abbrev pub or_else : Option Float → Float → Float
or_else None sheet = sheet
or_else (Some v) sheet = v

-- JS times the area where both are above 0, else IS
abbrev pub saturation : Float → Float → Float → Float
saturation js area is = cond ((js >f +0) && (area >f +0)) (js ⊗ area) is

abbrev pub geometry_record_of : Card → Sizes → Geometry
geometry_record_of c s =
    record {
      rd = or_else c.rd_card (c.rsh ⊗ s.nrd);
      rs = or_else c.rs_card (c.rsh ⊗ s.nrs);
      nrd = s.nrd;
      nrs = s.nrs;
      isat_bs = saturation c.js s.as_ c.is_bulk;
      isat_bd = saturation c.js s.ad c.is_bulk;
      w = s.w;
      l = s.l;
      w_over_l = s.w ⊘ s.l;
      as_ = s.as_;
      ad = s.ad;
      ps = s.ps;
      pd = s.pd;
      cgs_ov = c.cgso ⊗ s.w;
      cgd_ov = c.cgdo ⊗ s.w;
      cgb_ov = c.cgbo ⊗ s.l;
      cox_wl = c.cox ⊗ s.w ⊗ s.l;
      cbs_bot = c.cj ⊗ s.as_;
      cbs_sw = c.cjsw ⊗ s.ps;
      cbd_bot = c.cj ⊗ s.ad;
      cbd_sw = c.cjsw ⊗ s.pd;
    }

-- a later stage stays
abbrev pub geometry_stage : Stage → Stage
geometry_stage s = cond (before s Stage.Geometry) Stage.Geometry s

abbrev pub sized_to : Mosfet1 → Sizes → Mosfet1
sized_to d s =
    record {
      card = d.card;
      geometry = geometry_record_of d.card s;
      scaled = d.scaled;
      terminals = d.terminals;
      point = d.point;
      charges = d.charges;
      histories = d.histories;
      disc = d.disc;
      stage = geometry_stage d.stage;
    }

-- ---- the call

abbrev pub sizes_given : Mosfet1 → List ℕ → List ℕ → List ℕ → List Float → Sizes
sizes_given d bytes offsets lengths values =
    sizes_of (fresh_sizes d.geometry.nrd d.geometry.nrs) (entries_of bytes offsets lengths values)

-- its refusals; space is the lent list's length. Row 10: after binding
abbrev pub geometry_rows : Mosfet1 → List ℕ → List ℕ → List ℕ → List Float → ℕ → List Row
geometry_rows d bytes offsets lengths values space =
    let s = sizes_given d bytes offsets lengths values in
    key_rows Table.Geometry bytes offsets lengths values space
    ++ ((5 when oxide_missing d.card.kf s.w s.l d.card.cox) ∷ (10 when before Stage.Scaled d.stage) ∷ [])

-- the device and the count of unknown keys, or the refusal
unfoldable pub geometry_of : Mosfet1 → List ℕ → List ℕ → List ℕ → List Float → ℕ → Outcome Keyed
geometry_of d bytes offsets lengths values space =
    unless (geometry_rows d bytes offsets lengths values space) refused (done (record { device = sized_to d (sizes_given d bytes offsets lengths values); unknown = unknown_count Table.Geometry (entries_of bytes offsets lengths values) }))

unfoldable pub geometry_list_of : Mosfet1 → List ℕ → List ℕ → List ℕ → List Float → List ℕ → List ℕ
geometry_list_of d bytes offsets lengths values list =
    list_after (geometry_rows d bytes offsets lengths values (length list)) Table.Geometry (entries_of bytes offsets lengths values) list
