pub mod HexLaws
pub mod PutLaws
pub mod ContentLaws
pub mod RowLaws
pub mod ReadLaws
pub mod WriteLaws
pub mod RoundTripLaws
pub mod LineLaws
