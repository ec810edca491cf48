-- "Loaded values are the device's contributions, ground's too, before they are added": each is taken by its place in the lists that a load
-- adds, since two terminals may be one node, and then a cell gets several.
use Rattle.std.specs.Prelude.{ℕ, zero, suc, List, [], ◌∷◌, Float}
use Rattle.std.specs.Float.{nan}
use Rattle.device.specs.declared.Mosfet1.{Mosfet1}
use Rattle.device.specs.declared.NodeId.TheVariants.{Ground}
use Rattle.stamps.specs.Stamps.{position}
use Rattle.assembly.specs.Assembly.{Contribution, Source}
use Rattle.loading.specs.Loading.{jacobian_contributions, rhs_contributions}
use Rattle.loading.specs.declared.LoadKind.{LoadKind}
use Rattle.channel_current.specs.ChannelCurrent.{ChannelStamp}

-- the n-th contribution, counted from 0 (a NaN at ground behind the end)
unfoldable pub cell_at : ℕ → List Contribution → Contribution
cell_at n [] = record { position = position Ground Ground; value = nan }
cell_at zero (c ∷ cs) = c
cell_at (suc n) (c ∷ cs) = cell_at n cs

unfoldable pub source_at : ℕ → List Source → Source
source_at n [] = record { node = Ground; value = nan }
source_at zero (s ∷ ss) = s
source_at (suc n) (s ∷ ss) = source_at n ss

-- the channel's: (drain, gate) gm, (drain, drain) gds, (drain, bulk) gmbs; jeq into the source
unfoldable pub loaded_channel : Mosfet1 → LoadKind → ChannelStamp
loaded_channel d k = record {
  gm = (cell_at 0 (jacobian_contributions d k)).value;
  gds = (cell_at 1 (jacobian_contributions d k)).value;
  gmbs = (cell_at 3 (jacobian_contributions d k)).value;
  jeq = (source_at 1 (rhs_contributions d k)).value;
}

-- a junction's conductance at (bulk, bulk), and its offset into the inner source or drain
pub record JunctionStamp : Type 0 where
  pub conductance : Float
  pub offset : Float

unfoldable pub loaded_source_junction : Mosfet1 → LoadKind → JunctionStamp
loaded_source_junction d k = record { conductance = (cell_at 16 (jacobian_contributions d k)).value; offset = (source_at 3 (rhs_contributions d k)).value }

unfoldable pub loaded_drain_junction : Mosfet1 → LoadKind → JunctionStamp
loaded_drain_junction d k = record { conductance = (cell_at 20 (jacobian_contributions d k)).value; offset = (source_at 5 (rhs_contributions d k)).value }
