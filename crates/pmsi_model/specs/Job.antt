-- A job as contracts see it.
use Rattle.std.specs.Prelude.{◌≡◌, ℕ, ◌^◌, ◌≤◌, ◌<◌, List, [], length, slice_index_or}
use Rattle.std.specs.List.{All}
use Rattle.pmsi_model.specs.declared.job.Geometry.{Geometry}
use Rattle.pmsi_model.specs.declared.limits.TheConstants.{MAX_TEXT_WORDS}
use Rattle.pmsi_model.specs.Geometry.{IsGeometry}

pub record JobValue : Type 0 where
  pub shape : Geometry
  pub texts : List (List ℕ)
  pub start : List ℕ

-- a job is within the limits, with a text of words per core, and the start bytes of its whole memory
pub record IsJob (job : JobValue) : Type 0 where
  pub shape : IsGeometry job.shape
  pub texts : length job.texts ≡ job.shape.cores
  pub text_words : All (λ text. length text ≤ MAX_TEXT_WORDS) job.texts
  pub words : All (λ text. All (λ word. word < 2 ^ 32) text) job.texts
  pub start : length job.start ≡ job.shape.memory
  pub bytes : All (λ byte. byte < 256) job.start

-- the text of a core
abbrev pub text_of : JobValue → ℕ → List ℕ
text_of job core = slice_index_or job.texts core []
