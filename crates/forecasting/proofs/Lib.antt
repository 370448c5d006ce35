-- Laws that the proofs of forecasting cite.
pub mod Forecast
pub mod Line
