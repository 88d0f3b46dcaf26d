pub mod Named
pub mod Ends
pub mod Finish
pub mod Starts
pub mod Values
pub mod Quick
pub use Rattle.sgml_content_steps.specs as sgml_content_steps
pub use Rattle.sgml_infer.specs as sgml_infer
pub use Rattle.sgml_content_steps.specs.said as said
pub use Rattle.sgml_content_steps.specs.theory_starts as theory_starts
