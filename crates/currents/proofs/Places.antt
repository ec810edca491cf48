-- The loaded values stand where the claims say, by the definition of a load.
use mathlib.Core.Path.{refl}
use Rattle.device.specs.declared.Mosfet1.{Mosfet1}
use Rattle.stamps.specs.Stamps.{jac_pairs_of, jac_values_of, residual_of}
use Rattle.assembly.specs.Assembly.{paired, matrix_contributions, offset_sources, source_contributions}
use Rattle.loading.specs.Loading.{jacobian_contributions, rhs_contributions}
use Rattle.loading.specs.declared.LoadKind.{LoadKind}
use Rattle.currents.specs.Loaded.{cell_at, source_at}
use Rattle.currents.specs.Branches.{pos_of, neg_of, loaded_branch}
use Rattle.currents.specs.Places.{cells_of, sources_of, LoadedPlaces}

pub loaded_places : (d : Mosfet1) (k : LoadKind) → LoadedPlaces d k
unfolding cell_at source_at cells_of sources_of pos_of neg_of loaded_branch jacobian_contributions rhs_contributions matrix_contributions source_contributions offset_sources paired jac_pairs_of jac_values_of residual_of
loaded_places d k = record {
  gm = refl;
  gds = refl;
  gmbs = refl;
  jeq = refl;
  source_conductance = refl;
  source_offset = refl;
  drain_conductance = refl;
  drain_offset = refl;
  branch_cells = refl;
  branch_sources = refl;
}
