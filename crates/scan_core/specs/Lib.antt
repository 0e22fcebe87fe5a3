pub mod Answers
pub mod BeforeItf14
pub mod Bits
pub mod DotRuns
pub mod Faults
pub mod Laws
pub mod Lines
pub mod Ratios
pub mod Reading
pub mod Row
pub mod Searches
pub mod Showing
pub mod Windows
pub use Rattle.element_core.specs.Elements
pub use Rattle.element_core.specs.Faults as ElementFaults
pub use Rattle.ean_code.specs.Spelling
pub use Rattle.ean_code.specs.Symbols
pub use Rattle.code128_code.specs.Faults as Code128Faults
pub use Rattle.code128_code.specs.Symbols as Code128Symbols
pub use Rattle.code128_code.specs.Texts
pub mod inner
