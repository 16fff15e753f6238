-- Which refusals are the outside's, and which come of reading a header, a raster, or of looking samples over.
use Rattle.vt_ppm.specs.declared.error.PpmError.{PpmError}
use Rattle.vt_ppm.specs.declared.error.PpmError.TheVariants.{Failed, NoMemory, Truncated, SampleOver}

-- a refusal that the file or the memory makes
abbrev pub IsPpmOutsideRefusal : PpmError → Type 0
IsPpmOutsideRefusal Failed = Unit {0}
IsPpmOutsideRefusal NoMemory = Unit {0}
IsPpmOutsideRefusal _ = ⊥

-- a refusal that speaks of the raster, and so none that reading a header alone has
abbrev pub IsRasterRefusal : PpmError → Type 0
IsRasterRefusal (Truncated want have) = Unit {0}
IsRasterRefusal (SampleOver at) = Unit {0}
IsRasterRefusal _ = ⊥

-- a refusal that speaks of samples, and so none that an opening has, which reads the header alone
abbrev pub IsSampleRefusal : PpmError → Type 0
IsSampleRefusal (SampleOver at) = Unit {0}
IsSampleRefusal _ = ⊥

-- a refusal of looking a raster over: a sample above the maximum, or a fault
abbrev pub IsCheckRefusal : PpmError → Type 0
IsCheckRefusal (SampleOver at) = Unit {0}
IsCheckRefusal Failed = Unit {0}
IsCheckRefusal _ = ⊥
