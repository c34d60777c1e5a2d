pub mod SquareRoot
