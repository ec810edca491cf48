-- Meyer's shares of the channel capacitance, in steps: cutoff all to the bulk, triode halves, saturation two thirds to the source.
use Rattle.std.specs.Prelude.{Float}
use Rattle.exact.specs.Float64.{◌⊗◌, ◌⊘◌, +0}
use Rattle.float.specs.Constants.{half, two, three}
use Rattle.channel.specs.declared.Region.{Region}
use Rattle.channel.specs.declared.Region.TheVariants.{Cutoff, Triode, Saturation}
use Rattle.capacitance.specs.declared.GateShares.{GateShares}

-- 2/3 is rounded first
unfoldable pub meyer_of : Region → Float → GateShares
meyer_of Cutoff cox = record { gs = +0; gd = +0; gb = cox }
meyer_of Triode cox = record { gs = half ⊗ cox; gd = half ⊗ cox; gb = +0 }
meyer_of Saturation cox = record { gs = two ⊘ three ⊗ cox; gd = +0; gb = +0 }
